-- The comparisons are orders: each of two is below the other or they are the same, and what is below is below what is above.
use Prim.Native.Nat.{ℕ, ◌+◌, ◌≤◌, ◌<◌, min}
use mathlib.Core.List.{List, [], ◌∷◌}
use mathlib.Core.Path.{◌≡◌, refl, sym, ap, subst, ◌∙◌}
use mathlib.Core.Logic.{◌⊎◌, inl, inr}
use mathlib.Core.Bool.{true, false}
use native.Mathlib.Omega.{arith}
use native.Mathlib.Decide.{dec_lt}
use native.Mathlib.Numerals.{add-one}
use borrow.Author.Tests.{lt-ltb, le-ltb}
use lib.ListN.{length, drop, get_or, drop_of_length-le}
use lib.Seq.{drop-cons}
use Rattle.order.specs.Order.{is_equal, or_else, compare_numbers, compare_lists}
use Rattle.std.specs.Ordering.{MatchOrdering, nat_cmp}
use Rattle.std.specs.declared.cmp.Ordering.{Ordering}
use Rattle.std.specs.declared.cmp.Ordering.TheVariants.{Less, Equal, Greater}
use Rattle.std.proofs.lemmas.Cmp.{ranked}

-- numbers

module _ (m n : ℕ) where
  pub number_less : m < n → compare_numbers m n ≡ Less
  unfolding compare_numbers
  number_less h = simp (lt-ltb m n h)

  pub number_greater : n < m → compare_numbers m n ≡ Greater
  unfolding compare_numbers
  number_greater h = simp (le-ltb m n (omega arith), lt-ltb n m h)

  pub number_same : m ≡ n → compare_numbers m n ≡ Equal
  unfolding compare_numbers
  number_same h = simp (le-ltb m n (omega arith), le-ltb n m (omega arith))

-- what a comparison of numbers tells
abbrev pub Compares : ℕ → ℕ → Ordering → Type 0
Compares m n Less = m < n
Compares m n Equal = m ≡ n
Compares m n Greater = n < m

pub compares : (m n : ℕ) (o : Ordering) → compare_numbers m n ≡ o → Compares m n o
compares m n o e = subst (Compares m n) e (go (dec_lt m n) (dec_lt n m))
  where
    go : Dec (m < n) → Dec (n < m) → Compares m n (compare_numbers m n)
    go (yes h) d = subst (Compares m n) (sym (number_less m n h)) h
    go (no h) (yes k) = subst (Compares m n) (sym (number_greater m n k)) k
    go (no h) (no k) = subst (Compares m n) (sym (number_same m n (omega arith))) (omega arith)

-- what `cmp` answers of numbers is how they compare
pub as_cmp : (m n : ℕ) (o : Ordering) → o ≡ nat_cmp m n → o ≡ compare_numbers m n
as_cmp m n o e = go o (ranked m n o e)
  where
    go : (p : Ordering) → MatchOrdering p (m < n) (m ≡ n) (n < m) → p ≡ compare_numbers m n
    go Less h = sym (number_less m n h)
    go Equal h = sym (number_same m n h)
    go Greater h = sym (number_greater m n h)

-- numbers that differ decide
pub number_decides : (m n : ℕ) (o : Ordering) → (m ≡ n → ⊥) → or_else (compare_numbers m n) o ≡ compare_numbers m n
number_decides m n o h = go (compare_numbers m n) refl
  where
    go : (p : Ordering) → compare_numbers m n ≡ p → or_else p o ≡ p
    go Less e = refl
    go Equal e = absurd (h (compares m n Equal e))
    go Greater e = refl

-- the other way round
abbrev pub reversed : Ordering → Ordering
reversed Less = Greater
reversed Equal = Equal
reversed Greater = Less

reversed_number : (m n : ℕ) → compare_numbers n m ≡ reversed (compare_numbers m n)
reversed_number m n = go (compare_numbers m n) refl
  where
    go : (o : Ordering) → compare_numbers m n ≡ o → compare_numbers n m ≡ reversed o
    go Less e = number_greater n m (compares m n Less e)
    go Equal e = number_same n m (sym (compares m n Equal e))
    go Greater e = number_less n m (compares m n Greater e)

reversed_else : (o p : Ordering) → or_else (reversed o) (reversed p) ≡ reversed (or_else o p)
reversed_else Less p = refl
reversed_else Equal p = refl
reversed_else Greater p = refl

not_both : {o : Ordering} {P : Type 0} → o ≡ Less → o ≡ Equal → P
not_both e f = cc

pub not_less : {o : Ordering} {P : Type 0} → o ≡ Less → o ≡ Greater → P
not_less e f = cc

else_equal : (o p : Ordering) → or_else o p ≡ Equal → (o ≡ Equal) × (p ≡ Equal)
else_equal Less p e = not_both refl e
else_equal Equal p e = (refl, e)
else_equal Greater p e = cc

else_less : (o p : Ordering) → or_else o p ≡ Less → (o ≡ Less) ⊎ ((o ≡ Equal) × (p ≡ Less))
else_less Less p e = inl refl
else_less Equal p e = inr (refl, e)
else_less Greater p e = not_less e refl

-- lists

pub heads : (x y : ℕ) (xs ys : List ℕ) → compare_lists (x ∷ xs) (y ∷ ys) ≡ or_else (compare_numbers x y) (compare_lists xs ys)
unfolding compare_lists
heads x y xs ys = refl

-- lists that compare so
pub record Compared (xs ys : List ℕ) (o : Ordering) : Type 0 where
  pub is : o ≡ compare_lists xs ys

-- by the first numbers, where they are not equal, and else by the others

module _ {x y : ℕ} {xs ys : List ℕ} where
  pub decides : {o : Ordering} → o ≡ compare_numbers x y → is_equal o ≡ false → Compared (x ∷ xs) (y ∷ ys) o
  decides {o} e f = record { is = go o e f ∙ sym (heads x y xs ys) }
    where
      go : (p : Ordering) → p ≡ compare_numbers x y → is_equal p ≡ false → p ≡ or_else (compare_numbers x y) (compare_lists xs ys)
      go Less q h = rw (← q) refl
      go Equal q h = cc
      go Greater q h = rw (← q) refl

  pub passes : {o r : Ordering} → o ≡ compare_numbers x y → is_equal o ≡ true → Compared xs ys r → Compared (x ∷ xs) (y ∷ ys) r
  passes {o} {r} e f g = record { is = g.is ∙ go o e f ∙ sym (heads x y xs ys) }
    where
      go : (p : Ordering) → p ≡ compare_numbers x y → is_equal p ≡ true → compare_lists xs ys ≡ or_else (compare_numbers x y) (compare_lists xs ys)
      go Less q h = cc
      go Equal q h = rw (← q) refl
      go Greater q h = cc

-- a list comes before another
abbrev pub Below : List ℕ → List ℕ → Type 0
Below a b = compare_lists a b ≡ Less

pub same_equal : (a : List ℕ) → compare_lists a a ≡ Equal
unfolding compare_lists
same_equal [] = refl
same_equal (x ∷ xs) = rw (number_same x x refl) (same_equal xs)

pub compare_reversed : (a b : List ℕ) → compare_lists b a ≡ reversed (compare_lists a b)
unfolding compare_lists
compare_reversed [] [] = refl
compare_reversed [] (y ∷ ys) = refl
compare_reversed (x ∷ xs) [] = refl
compare_reversed (x ∷ xs) (y ∷ ys) = rw (reversed_number x y, compare_reversed xs ys) (reversed_else (compare_numbers x y) (compare_lists xs ys))

pub equal_same : (a b : List ℕ) → compare_lists a b ≡ Equal → a ≡ b
unfolding compare_lists
equal_same [] [] e = refl
equal_same [] (y ∷ ys) e = not_both refl e
equal_same (x ∷ xs) [] e = cc
equal_same (x ∷ xs) (y ∷ ys) e =
    let q = else_equal (compare_numbers x y) (compare_lists xs ys) e in
    let h : x ≡ y = compares x y Equal q.0 in
    let t : xs ≡ ys = equal_same xs ys q.1 in
    cc

pub below_trans : (a b c : List ℕ) → Below a b → Below b c → Below a c
unfolding compare_lists
below_trans [] [] c h k = not_both h refl
below_trans [] (y ∷ ys) [] h k = not_less k refl
below_trans [] (y ∷ ys) (z ∷ zs) h k = refl
below_trans (x ∷ xs) [] c h k = not_less h refl
below_trans (x ∷ xs) (y ∷ ys) [] h k = not_less k refl
below_trans (x ∷ xs) (y ∷ ys) (z ∷ zs) h k = go (else_less _ _ h) (else_less _ _ k) (λ p q. below_trans xs ys zs p q)
  where
    first : x < z → Below (x ∷ xs) (z ∷ zs)
    first l = ap (λ (o : Ordering). or_else o (compare_lists xs zs)) (number_less x z l)

    go : (compare_numbers x y ≡ Less) ⊎ ((compare_numbers x y ≡ Equal) × Below xs ys) → (compare_numbers y z ≡ Less) ⊎ ((compare_numbers y z ≡ Equal) × Below ys zs)
        → (Below xs ys → Below ys zs → Below xs zs) → Below (x ∷ xs) (z ∷ zs)
    go (inl p) (inl q) ih = first (let i = compares x y Less p in let j = compares y z Less q in omega arith)
    go (inl p) (inr q) ih = first (let i = compares x y Less p in let j = compares y z Equal q.0 in omega arith)
    go (inr p) (inl q) ih = first (let i = compares x y Equal p.0 in let j = compares y z Less q in omega arith)
    go (inr p) (inr q) ih =
        ap (λ (o : Ordering). or_else o (compare_lists xs zs)) (number_same x z (compares x y Equal p.0 ∙ compares y z Equal q.0)) ∙ ih p.1 q.1

pub below_irrefl : (a : List ℕ) → Below a a → ⊥
below_irrefl a h = not_both h (same_equal a)

pub below_asym : (a b : List ℕ) → Below a b → Below b a → ⊥
below_asym a b h k = below_irrefl a (below_trans a b a h k)

-- what is greater is above
pub greater_above : (a b : List ℕ) → compare_lists a b ≡ Greater → Below b a
greater_above a b e = compare_reversed a b ∙ ap reversed e

-- and what is above is greater
pub above_greater : (a b : List ℕ) → Below a b → compare_lists b a ≡ Greater
above_greater a b h = compare_reversed a b ∙ ap reversed h

-- a list is at most another
abbrev pub AtMost : List ℕ → List ℕ → Type 0
AtMost a b = Below b a → ⊥

pub at_most_same : (a b : List ℕ) → AtMost a b → AtMost b a → a ≡ b
at_most_same a b h k = go (compare_lists a b) refl
  where
    go : (o : Ordering) → compare_lists a b ≡ o → a ≡ b
    go Less e = absurd (k e)
    go Equal e = equal_same a b e
    go Greater e = absurd (h (greater_above a b e))

pub at_most_trans : (a b c : List ℕ) → AtMost a b → AtMost b c → AtMost a c
at_most_trans a b c h k l = go (compare_lists a b) refl
  where
    go : (o : Ordering) → compare_lists a b ≡ o → ⊥
    go Less e = k (below_trans c a b l e)
    go Equal e = k (subst (λ (z : List ℕ). Below c z) (equal_same a b e) l)
    go Greater e = h (greater_above a b e)

-- at a place of two lists, for a loop that goes from the front

module _ (a b : List ℕ) (i : ℕ) where
  pub both_there : i < length a → i < length b
      → compare_lists (drop i a) (drop i b) ≡ or_else (compare_numbers (get_or a i 0) (get_or b i 0)) (compare_lists (drop (i + 1) a) (drop (i + 1) b))
  unfolding compare_lists
  both_there h k = rw (add-one, drop-cons a i 0 h, drop-cons b i 0 k) refl

  pub second_ended : i < length a → length b ≤ i → compare_lists (drop i a) (drop i b) ≡ Greater
  unfolding compare_lists
  second_ended h k = rw (drop-cons a i 0 h, drop_of_length-le b {i = i} k) refl

  pub first_ended : length a ≤ i → i < length b → compare_lists (drop i a) (drop i b) ≡ Less
  unfolding compare_lists
  first_ended h k = rw (drop-cons b i 0 k, drop_of_length-le a {i = i} h) refl

  pub both_ended : length a ≤ i → length b ≤ i → compare_lists (drop i a) (drop i b) ≡ Equal
  unfolding compare_lists
  both_ended h k = rw (drop_of_length-le a {i = i} h, drop_of_length-le b {i = i} k) refl

  -- where one of them has ended, their lengths decide
  pub one_ended : i ≡ min (length a) (length b) → compare_lists (drop i a) (drop i b) ≡ compare_numbers (length a) (length b)
  one_ended h = go (compare_numbers (length a) (length b)) refl
    where
      go : (o : Ordering) → compare_numbers (length a) (length b) ≡ o → compare_lists (drop i a) (drop i b) ≡ o
      go Less e = let l = compares (length a) (length b) Less e in first_ended (omega arith) (omega arith)
      go Equal e = let l = compares (length a) (length b) Equal e in both_ended (omega arith) (omega arith)
      go Greater e = let l = compares (length a) (length b) Greater e in second_ended (omega arith) (omega arith)
