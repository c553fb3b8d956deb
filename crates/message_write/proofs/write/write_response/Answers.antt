-- Data that the check takes go into the buffer whole.
use Rattle.xdr.proofs.Answered.{handed_on}
use mathlib.Core.List.{◌++◌}
use mathlib.Core.Path.{refl, sym, ap, ◌∙◌}
use native.Mathlib.Omega.{arith}
use lib.ListN.{length, length-append}
use lib.Seq.{take_all}
use Rattle.xdr.specs.Format.{bytes, encode}
use Rattle.xdr.specs.Fields.{word}
use Rattle.xdr.specs.Buffer.{filled}
use Rattle.xdr.proofs.EncodedSize.{number_size}
use Rattle.xdr.proofs.FillingLaws.{fills_same}
use Rattle.message.specs.Message.{response}
use Rattle.message.specs.declared.edition.Edition.TheVariants as E
use Rattle.message_write.specs.Writing.{response_bytes}
use Rattle.message_write.proofs.WritingLaws.{admits, not_admitted, body_filled, by_body}
use Rattle.message_write.proofs.BodyLaws.{response_parts}
use Rattle.message_write.proofs.write.write_response.Goals as goal

pub returns-in_err-n : goal.returns-in_err-n
returns-in_err-n c =
    let a = c.args in
    rw (handed_on c.from_residual.result c.from_residual.ensures.1) (let b = response_bytes a.«data».now in
    fills_same a.out.now (by_body E.New a.id 3 b (omega arith) (omega arith))
    (not_admitted response a.id 3 b (length a.out.now) c.admitted.ensures c.check_response.ensures a.out.now refl c.in_err-n.was))

pub store_opaque-requires : goal.store_opaque-requires
store_opaque-requires c = let w = (response_parts c.args.«data».now (let a = c.args in admits response a.id 3 (response_bytes a.«data».now) (length a.out.now) c.admitted.ensures c.check_response.ensures c.in_ok-n.was).reads) in (w.0, omega (arith, w.1, (let a = c.args in admits response a.id 3 (response_bytes a.«data».now) (length a.out.now) c.admitted.ensures c.check_response.ensures c.in_ok-n.was).room))

pub returns : goal.returns
returns c =
    let a = c.args in
    let head = c.header_of.result in
    let l = encode (bytes word) a.«data».now in
    fills_same a.out.now (by_body E.New a.id 3 l (omega arith) (omega arith))
    (body_filled a.id 3 l a.out.now (let a = c.args in admits response a.id 3 (response_bytes a.«data».now) (length a.out.now) c.admitted.ensures c.check_response.ensures c.in_ok-n.was) (omega arith) c.header_of.ensures
    (c.store_opaque.ensures.1
    ∙ ap (filled a.out.now) (sym (take_all c.in_ok-n.n (encode word head ++ l) (omega (arith, length-append (encode word head) l, number_size 4 head, (response_parts c.args.«data».now (let a = c.args in admits response a.id 3 (response_bytes a.«data».now) (length a.out.now) c.admitted.ensures c.check_response.ensures c.in_ok-n.was).reads).1))))))
