-- A Request that the check takes goes into the buffer whole.
use Rattle.xdr.proofs.Answered.{handed_on}
use mathlib.Core.List.{◌++◌}
use mathlib.Core.Path.{refl, sym, ap, ◌∙◌}
use native.Mathlib.Omega.{arith}
use lib.ListN.{length, length-append}
use lib.Seq.{take_all}
use Rattle.xdr.specs.Format.{encode}
use Rattle.xdr.specs.Fields.{word}
use Rattle.xdr.specs.Buffer.{filled}
use Rattle.xdr.proofs.EncodedSize.{number_size}
use Rattle.xdr.proofs.FillingLaws.{fills_same}
use Rattle.message.specs.Message.{request}
use Rattle.message_write.specs.Writing.{request_bytes}
use Rattle.message_write.specs.Steps.{repository_of}
use Rattle.message_write.proofs.WritingLaws.{types_end, by_body, admits, not_admitted, body_filled}
use Rattle.message_write.proofs.BodyLaws.{request_parts}
use Rattle.message_write.proofs.write.put_request.Goals as goal

pub returns-in_err-n : goal.returns-in_err-n
returns-in_err-n c =
    let b = request_bytes c.args.edition (repository_of c.args.edition c.args.repository.now) c.args.name.now c.args.offset c.args.size c.args.hash.now in
    rw (handed_on c.from_residual.result c.from_residual.ensures.1)
    (fills_same c.args.out.now (by_body c.args.edition c.args.id 2 b (omega arith) (omega (arith, (types_end c.args.edition).0)))
    (not_admitted (request c.args.edition) c.args.id 2 b (length c.args.out.now) c.admitted.ensures (c.check_request.ensures c.args.offset) c.args.out.now refl c.in_err-n.was))

pub store_request-requires : goal.store_request-requires
store_request-requires c =
    let b = request_bytes c.args.edition (repository_of c.args.edition c.args.repository.now) c.args.name.now c.args.offset c.args.size c.args.hash.now in
    let p = admits (request c.args.edition) c.args.id 2 b (length c.args.out.now) c.admitted.ensures (c.check_request.ensures c.args.offset) c.in_ok-n.was in
    let w = request_parts c.args.edition c.args.repository.now c.args.name.now c.args.offset c.args.size c.args.hash.now p.reads in
    record { repository_len_bound = (w.0, w.1, w.2); hash_in_bounds = omega (arith, w.3, p.room) }

pub returns : goal.returns
returns c =
    let b = request_bytes c.args.edition (repository_of c.args.edition c.args.repository.now) c.args.name.now c.args.offset c.args.size c.args.hash.now in
    let p = admits (request c.args.edition) c.args.id 2 b (length c.args.out.now) c.admitted.ensures (c.check_request.ensures c.args.offset) c.in_ok-n.was in
    let w = request_parts c.args.edition c.args.repository.now c.args.name.now c.args.offset c.args.size c.args.hash.now p.reads in
    let head = c.header_of.result in
    fills_same c.args.out.now (by_body c.args.edition c.args.id 2 b (omega arith) (omega (arith, (types_end c.args.edition).0)))
    (body_filled c.args.id 2 b c.args.out.now p (omega arith) c.header_of.ensures
    (c.store_request.ensures
    ∙ ap (filled c.args.out.now) (sym (take_all c.in_ok-n.n (encode word head ++ b) (omega (arith, length-append (encode word head) b, number_size 4 head, w.3))))))
