-- In the old edition the header alone, in the new one a string behind it.
use Prim.Native.Nat.{ℕ, ◌+◌, ◌≤◌}
use mathlib.Core.List.{List, [], ◌++◌, append-nil}
use mathlib.Core.Path.{◌≡◌, sym, subst, ◌∙◌}
use native.Mathlib.Omega.{arith}
use borrow.Author.Tests.{le-leb}
use lib.ListN.{length}
use Rattle.xdr.specs.Format.{encode}
use Rattle.xdr.specs.Fields.{word}
use Rattle.xdr.specs.Buffer.{Puts}
use Rattle.xdr.proofs.EncodedSize.{number_size}
use Rattle.xdr.proofs.BufferLaws.{filled_none, put_next}
use Rattle.message.specs.declared.edition.Edition.{Edition}
use Rattle.message_write.specs.Steps.{given_bytes, Stored}
use Rattle.message_write.proofs.Behind.{string_size}
use Rattle.message_write.proofs.write.store_front.Goals as goal

-- by the edition that it is
in-edition : (head : ℕ) (l out : List ℕ) {e x : Edition} {r : ℕ} {after : List ℕ} → e ≡ x → Stored (encode word head ++ given_bytes x l) out r after → Stored (encode word head ++ given_bytes e l) out r after
in-edition head l out {r = r} {after = after} same s = subst (λ (y : Edition). Stored (encode word head ++ given_bytes y l) out r after) (sym same) s

-- the header alone
header-put : (head : ℕ) (out : List ℕ) {r : ℕ} {after : List ℕ} → 4 ≤ length out → Puts (encode word head) out 0 r after → Stored (encode word head ++ []) out r after
header-put head out {r} {after} room p =
    let size = number_size 4 head in
    let count : r ≡ length (encode word head) = p.0 ∙ simp (le-leb (0 + length (encode word head)) (length out) (omega (arith, size))) in
    subst (λ (l : List ℕ). Stored l out r after) (sym (append-nil (encode word head)))
    (count, (put_next (filled_none out) (encode word head) size room p.1).fills)

pub store_opaque-requires : goal.store_opaque-requires
store_opaque-requires c =
    let p = subst (λ (y : Edition). (length (given_bytes y c.args.repository.now) ≤ 68) × (4 + length (given_bytes y c.args.repository.now) ≤ length c.args.out.now)) c.in-New.is c.requires in
    (omega (arith, p.0, string_size c.args.repository.now), p.1)

pub returns-in-Old : goal.returns-in-Old
returns-in-Old c =
    let a = c.args in
    in-edition a.head a.repository.now a.out.now c.in-Old.is (header-put a.head a.out.now (omega (arith, c.requires)) c.put_word.ensures)

pub returns-in-New : goal.returns-in-New
returns-in-New c =
    let a = c.args in
    in-edition a.head a.repository.now a.out.now c.in-New.is c.store_opaque.ensures
