-- The header is the whole message.
use Rattle.std.proofs.Common.{ℕ}
use Rattle.std.specs.declared.result.Result.{Result}
use Rattle.xdr.specs.declared.answer.Refusal.{Refusal}
use Rattle.std.specs.Prelude.{Ok}
use Rattle.xdr.proofs.Answered.{handed_on}
use Prim.Native.Nat.{◌<◌}
use mathlib.Core.List.{[], ◌++◌, append-nil}
use mathlib.Core.Path.{◌≡◌, refl, sym, ap, ◌∙◌}
use native.Mathlib.Omega.{arith}
use lib.ListN.{length}
use lib.Seq.{take_all}
use Rattle.xdr.specs.Format.{nothing, read, encode}
use Rattle.xdr.specs.Fields.{word}
use Rattle.xdr.specs.Buffer.{filled}
use Rattle.xdr.proofs.BufferLaws.{filled_none, put_next}
use Rattle.xdr.proofs.EncodedSize.{number_size}
use Rattle.xdr.proofs.FillingLaws.{fills_same}
use Rattle.message.specs.Message.{message}
use Rattle.message.specs.declared.edition.Edition.TheVariants as E
use Rattle.message_write.specs.Steps.{writing_body, body_check}
use Rattle.message_write.specs.Writing.{writing}
use Rattle.message_write.proofs.WritingLaws.{by_body, either, admits, not_admitted, body_filled}
use Rattle.message_write.proofs.BodyLaws.{nothing_parts}
use Rattle.message_write.proofs.write.put_nothing.Goals as goal

checked : ◌≡◌ {A = Result ℕ Refusal} (Ok 4) (body_check nothing [])
unfolding body_check read
checked = refl

pub returns-in_err-n : goal.returns-in_err-n
returns-in_err-n c =
    let by = either 4 5 c.args.kind (λ k. writing (message E.New) c.args.id k [] ≡ writing_body nothing c.args.id k []) c.requires (by_body E.New c.args.id 4 [] (omega arith) (omega arith)) (by_body E.New c.args.id 5 [] (omega arith) (omega arith)) in
    rw (handed_on c.from_residual.result c.from_residual.ensures.1)
    (fills_same c.args.out.now by (not_admitted nothing c.args.id c.args.kind [] (length c.args.out.now) c.admitted.ensures checked c.args.out.now refl c.in_err-n.was))

pub returns : goal.returns
returns c =
    let a = c.args in
    let n = c.in_ok-n.n in
    let head = c.header_of.result in
    let by = either 4 5 c.args.kind (λ k. writing (message E.New) c.args.id k [] ≡ writing_body nothing c.args.id k []) c.requires (by_body E.New c.args.id 4 [] (omega arith) (omega arith)) (by_body E.New c.args.id 5 [] (omega arith) (omega arith)) in
    let p = admits nothing a.id a.kind [] (length a.out.now) c.admitted.ensures checked c.in_ok-n.was in
    let four = nothing_parts p.reads in
    let size = number_size 4 head in
    fills_same a.out.now by
    (body_filled a.id a.kind [] a.out.now p (either 4 5 a.kind (λ k. k < 256) c.requires (omega arith) (omega arith)) c.header_of.ensures
    ((put_next (filled_none a.out.now) (encode word head) size (omega (arith, four, p.room)) c.put_word.ensures.1).fills
    ∙ ap (filled a.out.now) (sym (append-nil (encode word head)) ∙ sym (take_all n (encode word head ++ []) (simp append-nil (omega (arith, size, four)))))))
