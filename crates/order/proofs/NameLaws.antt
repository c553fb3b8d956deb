-- Comparing names by eight bytes at a time, the last eight of the shorter at once.
use Prim.Native.Nat.{ℕ, ◌+◌, ◌≤◌, min}
use mathlib.Core.List.{List, ◌++◌}
use mathlib.Core.Path.{◌≡◌, sym, ap, ◌∙◌}
use mathlib.Core.Logic.{◌⊎◌, inl, inr}
use native.Mathlib.Omega.{arith}
use lib.ListN.{length, take, drop, length-drop}
use lib.Seq.{take-add, take-take}
use Rattle.xdr.specs.Number.{IsBytes, big_endian, digits}
use Rattle.xdr.proofs.NumberLaws.{bytes_drop, digits_read}
use Rattle.order.specs.Order.{compare_numbers, compare_lists}
use Rattle.std.specs.declared.cmp.Ordering.{Ordering}
use Rattle.order.proofs.OrderLaws.{one_ended}
use Rattle.order.proofs.SameLaws.{past_same}
use Rattle.order.proofs.WordLaws.{word_differs}
use Rattle.order.specs.Steps.{Shorter}

-- what comes after the same bytes decides
after : (a b : List ℕ) (i : ℕ) → take i a ≡ take i b → compare_lists a b ≡ compare_lists (drop i a) (drop i b)
after a b i e = past_same a b 0 i e ∙ (let z : 0 + i ≡ i = omega arith in ap (λ (n : ℕ). compare_lists (drop n a) (drop n b)) z)

-- fewer of the same bytes
pub take_fewer : (a b : List ℕ) (i n : ℕ) → take i a ≡ take i b → n ≤ i → take n a ≡ take n b
take_fewer a b i n e h = sym (take-take n i a h) ∙ ap (take n) e ∙ take-take n i b h

module _ (a b : List ℕ) (i : ℕ) {x y : ℕ} (p : IsBytes a) (q : IsBytes b) (h : i + 8 ≤ length a) (g : i + 8 ≤ length b)
    (e : x ≡ big_endian 8 (drop i a)) (f : y ≡ big_endian 8 (drop i b)) (same : take i a ≡ take i b) where
  eight : (l : List ℕ) → IsBytes l → i + 8 ≤ length l → take 8 (drop i l) ≡ digits 8 (big_endian 8 (drop i l))
  eight l r k = sym (digits_read 8 (drop i l) (bytes_drop i l r) (simp length-drop (omega arith))).0

  -- eight more
  pub eight_more : x ≡ y → take (i + 8) a ≡ take (i + 8) b
  eight_more s =
      take-add i 8 a
      ∙ ap (λ (l : List ℕ). l ++ take 8 (drop i a)) same
      ∙ ap (λ (l : List ℕ). take i b ++ l) (eight a p h ∙ ap (digits 8) (sym e ∙ s ∙ f) ∙ sym (eight b q g))
      ∙ sym (take-add i 8 b)

  -- and else these decide
  pub eight_decide : {o : Ordering} → o ≡ compare_numbers x y → (x ≡ y → ⊥) → o ≡ compare_lists a b
  eight_decide c d = c ∙ sym (after a b i same ∙ word_differs 8 a b i p q h g e f d)

-- all of the shorter is the same: so the lengths decide
pub lengths_decide : (a b : List ℕ) (n : ℕ) → Shorter (length a) (length b) n → take n a ≡ take n b → compare_lists a b ≡ compare_numbers (length a) (length b)
lengths_decide a b n w same = after a b n same ∙ one_ended a b n (go w.one)
  where
    go : (n ≡ length a) ⊎ (n ≡ length b) → n ≡ min (length a) (length b)
    go (inl e) = omega (arith, w.first, w.second)
    go (inr e) = omega (arith, w.first, w.second)
