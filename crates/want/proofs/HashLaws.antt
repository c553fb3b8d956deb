-- Comparing two hashes, and a block's Length and hash.
use Prim.Native.Nat.{ℕ, ◌+◌, ◌≤◌}
use mathlib.Core.List.{List}
use mathlib.Core.Path.{◌≡◌, refl, sym, ap, subst, ◌∙◌}
use mathlib.Core.Bool.{Bool, true, false, ◌&&◌}
use native.Mathlib.Omega.{arith}
use borrow.Author.Tests.{eq-eqb}
use lib.ListN.{length, get_or, take, drop, length-drop}
use lib.Seq.{length-take-le}
use lib.Dec.{eqb}
use Rattle.record.specs.Outline.{word_at}
use Rattle.record.proofs.RisingLaws.{and_true}
use Rattle.order.specs.Order.{is_equal, compare_lists}
use Rattle.order.proofs.SameLaws.{differ}
use Rattle.want.specs.Listing.{is_same, block_with}
use Rattle.want.specs.Steps.Blocks.{block_here}

-- not of 32 bytes, or they end otherwise
pub differ_end : (a b : List ℕ) → length a ≡ 32 → {r : Bool} → r ≡ (eqb (length b) 32 && eqb (get_or a 31 0) (get_or b 31 0)) → r ≡ false → false ≡ is_equal (compare_lists a b)
differ_end a b h e f = differ a b (λ q. no (subst (λ (l : List ℕ). (eqb (length l) 32 && eqb (get_or a 31 0) (get_or l 31 0)) ≡ false) (sym q) (sym e ∙ f)))
  where
    no : (eqb (length a) 32 && eqb (get_or a 31 0) (get_or a 31 0)) ≡ false → ⊥
    no g = let z : ◌≡◌ {A = Bool} true false = sym (rw (eq-eqb (length a) 32 h, eq-eqb (get_or a 31 0) (get_or a 31 0) refl) refl) ∙ g in let y : ◌≡◌ {A = ℕ} 0 1 = cc in omega arith

-- a block, by the hash that was compared first

and_false : (b : Bool) → false ≡ (b && false)
and_false true = refl
and_false false = refl

module _ (s : List ℕ) (at : ℕ) {l : List ℕ} (k : l ≡ take 32 (drop (at + 8) s)) where
  pub hash_long : at + 40 ≤ length s → length l ≡ 32
  hash_long h = ap length k ∙ length-take-le 32 (drop (at + 8) s) (simp length-drop (omega arith))

  module _ (size : ℕ) (hash : List ℕ) where
    told : {v : Bool} → v ≡ is_equal (compare_lists l hash) → is_equal (compare_lists (take 32 (drop (at + 8) s)) hash) ≡ v
    told e = ap (λ (x : List ℕ). is_equal (compare_lists x hash)) (sym k) ∙ sym e

    pub hash_differs : false ≡ is_equal (compare_lists l hash) → false ≡ is_same (block_here s at) (block_with size hash)
    hash_differs e = rw (told e) (and_false (eqb (word_at s at) size))

    pub hash_same : {n : ℕ} → true ≡ is_equal (compare_lists l hash) → n ≡ word_at s at → eqb n size ≡ is_same (block_here s at) (block_with size hash)
    hash_same {n} e g = ap (λ (m : ℕ). eqb m size) g ∙ rw (told e) (sym (and_true (eqb (word_at s at) size)))
