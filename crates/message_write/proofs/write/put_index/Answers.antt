-- What the check takes goes into the buffer.
use Rattle.xdr.proofs.Answered.{handed_on}
use Prim.Native.Nat.{ℕ, ◌<◌}
use mathlib.Core.List.{List}
use mathlib.Core.Path.{◌≡◌, refl}
use native.Mathlib.Omega.{arith}
use lib.ListN.{length}
use Rattle.xdr.proofs.FillingLaws.{fills_same}
use Rattle.message.specs.Message.{index, message}
use Rattle.message_write.specs.Writing.{index_bytes, writing}
use Rattle.message_write.specs.Steps.{repository_of, writing_body}
use Rattle.message_write.proofs.WritingLaws.{types_end, by_body, either, admits, not_admitted, body_filled}
use Rattle.message_write.proofs.BodyLaws.{index_parts}
use Rattle.std.proofs.Common.{true, ◌||◌, eqb}
use Rattle.message.specs.declared.edition.Edition.{Edition}
use Rattle.message_write.proofs.write.put_index.Goals as goal

-- an Index or an IndexUpdate is written by the format of its body
by_index : (e : Edition) (id k : ℕ) (b : List ℕ) → (eqb k 1 || eqb k 6) ≡ true → writing (message e) id k b ≡ writing_body (index e) id k b
by_index e id k b h =
    let types = (types_end e).0 in
    either 1 6 k (λ t. writing (message e) id t b ≡ writing_body (index e) id t b) h (by_body e id 1 b (omega arith) (omega (arith, types))) (by_body e id 6 b (omega arith) types)

pub returns-in_err-n : goal.returns-in_err-n
returns-in_err-n c =
    let b = index_bytes c.args.edition (repository_of c.args.edition c.args.repository.now) c.args.files.now in
    rw (handed_on c.from_residual.result c.from_residual.ensures.1)
    (fills_same c.args.out.now (by_index c.args.edition c.args.id c.args.kind b c.requires)
    (not_admitted (index c.args.edition) c.args.id c.args.kind b (length c.args.out.now) c.admitted.ensures c.check_index.ensures c.args.out.now refl c.in_err-n.was))

pub store_index-requires : goal.store_index-requires
store_index-requires c =
    let b = index_bytes c.args.edition (repository_of c.args.edition c.args.repository.now) c.args.files.now in
    let p = admits (index c.args.edition) c.args.id c.args.kind b (length c.args.out.now) c.admitted.ensures c.check_index.ensures c.in_ok-n.was in
    let w = index_parts c.args.edition c.args.repository.now c.args.files.now p.reads in
    record { repository_len_bound = (w.0, p.room); repository_bound = (w.1, w.2) }

pub returns : goal.returns
returns c =
    let b = index_bytes c.args.edition (repository_of c.args.edition c.args.repository.now) c.args.files.now in
    let p = admits (index c.args.edition) c.args.id c.args.kind b (length c.args.out.now) c.admitted.ensures c.check_index.ensures c.in_ok-n.was in
    fills_same c.args.out.now (by_index c.args.edition c.args.id c.args.kind b c.requires)
    (body_filled c.args.id c.args.kind b c.args.out.now p (either 1 6 c.args.kind (λ k. k < 256) c.requires (omega arith) (omega arith)) c.header_of.ensures c.store_index.ensures)
