-- Comparing several bytes at once: by the numbers that they are, the highest byte first.
use Prim.Native.Nat.{ℕ, zero, suc, ◌+◌, ◌*◌, ◌^◌, ◌≤◌, ◌<◌}
use mathlib.Core.List.{List, [], ◌∷◌}
use mathlib.Core.Path.{◌≡◌, refl, sym, ap, ◌∙◌}
use native.Mathlib.Omega.{arith}
use native.Mathlib.Nat.{suc-mul, mul-le-mul_right}
use lib.ListN.{length, drop, length-drop}
use lib.Seq.{drop-drop}
use Rattle.xdr.specs.Number.{big_endian, IsBytes}
use Rattle.xdr.proofs.NumberLaws.{bytes_drop, digits_read}
use Rattle.order.specs.Order.{or_else, compare_numbers, compare_lists}
use Rattle.std.specs.declared.cmp.Ordering.{Ordering}
use Rattle.std.specs.declared.cmp.Ordering.TheVariants.{Less, Equal, Greater}
use Rattle.order.proofs.OrderLaws.{number_less, number_greater, number_same, number_decides, compares, heads}

-- a higher number before a lower one outweighs all that the lower one can be
outweighs : (w x y m n : ℕ) → x < y → m < w → x * w + m < y * w + n
outweighs w x y m n h k = let top : suc x * w ≤ y * w = mul-le-mul_right w h in omega (arith, suc-mul x w)

two_digits : (w x y m n : ℕ) → m < w → n < w → compare_numbers (x * w + m) (y * w + n) ≡ or_else (compare_numbers x y) (compare_numbers m n)
two_digits w x y m n h k = go (compare_numbers x y) refl
  where
    low : x ≡ y → (o : Ordering) → compare_numbers m n ≡ o → compare_numbers (x * w + m) (y * w + n) ≡ o
    low e Less q = let l = compares m n Less q in let s : x * w ≡ y * w = ap (λ (z : ℕ). z * w) e in number_less (x * w + m) (y * w + n) (omega arith)
    low e Equal q = let l = compares m n Equal q in let s : x * w ≡ y * w = ap (λ (z : ℕ). z * w) e in number_same (x * w + m) (y * w + n) (omega arith)
    low e Greater q = let l = compares m n Greater q in let s : x * w ≡ y * w = ap (λ (z : ℕ). z * w) e in number_greater (x * w + m) (y * w + n) (omega arith)

    go : (o : Ordering) → compare_numbers x y ≡ o → compare_numbers (x * w + m) (y * w + n) ≡ or_else o (compare_numbers m n)
    go Less e = number_less (x * w + m) (y * w + n) (outweighs w x y m n (compares x y Less e) h)
    go Equal e = low (compares x y Equal e) (compare_numbers m n) refl
    go Greater e = number_greater (x * w + m) (y * w + n) (outweighs w y x n m (compares x y Greater e) k)

else_assoc : (o p q : Ordering) → or_else o (or_else p q) ≡ or_else (or_else o p) q
else_assoc Less p q = refl
else_assoc Equal p q = refl
else_assoc Greater p q = refl

-- the first k bytes, and then the others
by_number : (k : ℕ) (a b : List ℕ) → IsBytes a → IsBytes b → k ≤ length a → k ≤ length b
    → compare_lists a b ≡ or_else (compare_numbers (big_endian k a) (big_endian k b)) (compare_lists (drop k a) (drop k b))
by_number zero a b p q h g = sym (ap (λ (o : Ordering). or_else o (compare_lists a b)) (number_same 0 0 refl))
by_number (suc k) [] b p q h g = absurd (omega arith)
by_number (suc k) (x ∷ a) [] p q h g = absurd (omega arith)
by_number (suc k) (x ∷ a) (y ∷ b) p q h g =
    let rest : Ordering = compare_lists (drop k a) (drop k b) in
    heads x y a b
    ∙ ap (or_else (compare_numbers x y)) (by_number k a b (λ i. p (suc i)) (λ i. q (suc i)) (omega arith) (omega arith))
    ∙ else_assoc (compare_numbers x y) (compare_numbers (big_endian k a) (big_endian k b)) rest
    ∙ ap (λ (o : Ordering). or_else o rest)
    (sym (two_digits (256 ^ k) x y (big_endian k a) (big_endian k b) (digits_read k a (λ i. p (suc i)) (omega arith)).1 (digits_read k b (λ i. q (suc i)) (omega arith)).1))

module _ (k : ℕ) (a b : List ℕ) (i : ℕ) {x y : ℕ} (p : IsBytes a) (q : IsBytes b) (h : i + k ≤ length a) (g : i + k ≤ length b)
    (e : x ≡ big_endian k (drop i a)) (f : y ≡ big_endian k (drop i b)) where
  by_word : compare_lists (drop i a) (drop i b) ≡ or_else (compare_numbers x y) (compare_lists (drop (i + k) a) (drop (i + k) b))
  by_word =
      by_number k (drop i a) (drop i b) (bytes_drop i a p) (bytes_drop i b q) (simp length-drop (omega arith)) (simp length-drop (omega arith))
      ∙ ap (λ (o : Ordering). or_else o (compare_lists (drop k (drop i a)) (drop k (drop i b)))) (ap (λ (n : ℕ). compare_numbers n (big_endian k (drop i b))) (sym e) ∙ ap (compare_numbers x) (sym f))
      ∙ ap (λ (l : List ℕ). or_else (compare_numbers x y) (compare_lists l (drop k (drop i b)))) (drop-drop k i a)
      ∙ ap (λ (l : List ℕ). or_else (compare_numbers x y) (compare_lists (drop (i + k) a) l)) (drop-drop k i b)

  -- where the numbers at a place are the same, what comes after them decides
  pub word_same : x ≡ y → compare_lists (drop i a) (drop i b) ≡ compare_lists (drop (i + k) a) (drop (i + k) b)
  word_same s = by_word ∙ ap (λ (o : Ordering). or_else o (compare_lists (drop (i + k) a) (drop (i + k) b))) (number_same x y s)

  -- and else they do
  pub word_differs : (x ≡ y → ⊥) → compare_lists (drop i a) (drop i b) ≡ compare_numbers x y
  word_differs s = by_word ∙ number_decides x y (compare_lists (drop (i + k) a) (drop (i + k) b)) s
