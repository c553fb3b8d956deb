-- Zero bytes: how many come first, and what a list of them is.
use Prim.Native.Nat.{ℕ, zero, suc, ◌≤◌}
use mathlib.Core.List.{List, [], ◌∷◌}
use mathlib.Core.Path.{◌≡◌, refl, sym, ap, ◌∙◌}
use mathlib.Core.Bool.{Bool, true, false, cond}
use native.Mathlib.Omega.{arith}
use borrow.Author.Tests.{eq-eqb, ne_eqb, eqb-true}
use lib.ListN.{length, replicate, length-replicate}
use lib.Dec.{eqb}
use Rattle.xdr.specs.Pad.{zeros_up_to, all_zero}

count_zeros : (n : ℕ) → zeros_up_to (replicate n 0) ≡ n
count_zeros zero = refl
count_zeros (suc n) = ap suc (count_zeros n)

zero_first : (b n m : ℕ) (c : Bool) → eqb b 0 ≡ c → cond c (suc n) 0 ≡ suc m → (b ≡ 0) × (n ≡ m)
zero_first b n m true e h = (eqb-true b 0 e, omega arith)
zero_first b n m false e h = absurd (omega arith)

counted_zeros : (l : List ℕ) → zeros_up_to l ≡ length l → l ≡ replicate (length l) 0
counted_zeros [] h = refl
counted_zeros (b ∷ l) h =
    let q = zero_first b (zeros_up_to l) (length l) (eqb b 0) refl h in
    rw q.0 (ap (λ (m : List ℕ). 0 ∷ m) (counted_zeros l q.1))

pub zeros_within : (l : List ℕ) → zeros_up_to l ≤ length l
zeros_within [] = omega arith
zeros_within (b ∷ l) = go (eqb b 0) (zeros_within l)
  where
    go : (t : Bool) → zeros_up_to l ≤ length l → cond t (suc (zeros_up_to l)) 0 ≤ suc (length l)
    go true h = omega arith
    go false h = omega arith

-- all bytes are zero exactly if the count reaches the end
pub zero_all : (l : List ℕ) (n : ℕ) → n ≡ length l → zeros_up_to l ≡ n → all_zero l ≡ true
unfolding all_zero
zero_all l n e h = eq-eqb (zeros_up_to l) (length l) (h ∙ e)

pub zero_not_all : (l : List ℕ) (n : ℕ) → n ≡ length l → (zeros_up_to l ≡ n → ⊥) → all_zero l ≡ false
unfolding all_zero
zero_not_all l n e h = ne_eqb (zeros_up_to l) (length l) (λ q. h (q ∙ sym e))

pub zeros_zero : (n : ℕ) → all_zero (replicate n 0) ≡ true
zeros_zero n = zero_all (replicate n 0) n (sym (length-replicate n 0)) (count_zeros n)

pub zeros_are : (l : List ℕ) → all_zero l ≡ true → l ≡ replicate (length l) 0
unfolding all_zero
zeros_are l h = counted_zeros l (eqb-true (zeros_up_to l) (length l) h)
