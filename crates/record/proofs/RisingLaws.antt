-- Names that rise: one more at the end, and what begins a list of them.
use Rattle.std.proofs.Common.{◌≡◌, ℕ, ◌≤◌, Bool, true, false, ◌&&◌, List, [], ◌∷◌, ◌++◌, length, sym, refl, ap, ◌∙◌, arith}
use Rattle.record.specs.File.{File}
use Rattle.order.specs.Order.{is_less, compare_lists}
use Rattle.record.specs.Rising.{is_above, is_rising}
use Rattle.std.specs.declared.cmp.Ordering.{Ordering}
use Rattle.std.specs.declared.cmp.Ordering.TheVariants.{Less, Equal, Greater}
use Rattle.order.proofs.OrderLaws.{Below}

-- the name of the last record, or none
abbrev pub last_name : List File → List ℕ
last_name [] = []
last_name (f ∷ []) = f.name
last_name (f ∷ g ∷ l) = last_name (g ∷ l)

pub and_true : (b : Bool) → (b && true) ≡ b
and_true true = refl
and_true false = refl

pub and_false : (b : Bool) → (b && false) ≡ false
and_false true = refl
and_false false = refl

and_assoc : (a b c : Bool) → (a && (b && c)) ≡ ((a && b) && c)
and_assoc true b c = refl
and_assoc false b c = refl

pub first_above : (n : List ℕ) → 1 ≤ length n → is_less (compare_lists [] n) ≡ true
unfolding compare_lists
first_above [] h = absurd (omega arith)
first_above (x ∷ n) h = refl

-- one record more: its name is above the last
pub rising_more : (l : List File) (f : File) → 1 ≤ length f.name → is_rising (l ++ f ∷ []) ≡ (is_rising l && is_less (compare_lists (last_name l) f.name))
rising_more [] f h = sym (first_above f.name h)
rising_more (g ∷ []) f h = and_true (is_less (compare_lists g.name f.name))
rising_more (g ∷ k ∷ l) f h =
    ap (λ (b : Bool). is_less (compare_lists g.name k.name) && b) (rising_more (k ∷ l) f h)
    ∙ and_assoc (is_less (compare_lists g.name k.name)) (is_rising (k ∷ l)) (is_less (compare_lists (last_name (k ∷ l)) f.name))

-- where names don't rise, more records don't mend it
pub rising_front : (l m : List File) → is_rising l ≡ false → is_rising (l ++ m) ≡ false
rising_front [] m e = let z : ◌≡◌ {A = ℕ} 0 1 = cc in absurd (omega arith)
rising_front (f ∷ []) m e = let z : ◌≡◌ {A = ℕ} 0 1 = cc in absurd (omega arith)
rising_front (f ∷ g ∷ l) m e = go (is_less (compare_lists f.name g.name)) e (λ q. rising_front (g ∷ l) m q)
  where
    go : (b : Bool) → (b && is_rising (g ∷ l)) ≡ false → (is_rising (g ∷ l) ≡ false → is_rising ((g ∷ l) ++ m) ≡ false) → (b && is_rising ((g ∷ l) ++ m)) ≡ false
    go true q ih = ih q
    go false q ih = refl

-- names that rise, as facts

pub both_true : (a b : Bool) → (a && b) ≡ true → (a ≡ true) × (b ≡ true)
both_true true b e = (refl, e)
both_true false b e = let z : ◌≡◌ {A = ℕ} 0 1 = cc in absurd (omega arith)

pub is_less_lem : (o : Ordering) → is_less o ≡ true → o ≡ Less
is_less_lem Less e = refl
is_less_lem Equal e = let z : ◌≡◌ {A = ℕ} 0 1 = cc in absurd (omega arith)
is_less_lem Greater e = let z : ◌≡◌ {A = ℕ} 0 1 = cc in absurd (omega arith)

abbrev pub Above : List ℕ → List File → Type 0
Above n [] = Unit {0}
Above n (f ∷ fs) = Below n f.name

abbrev pub Rising : List File → Type 0
Rising [] = Unit {0}
Rising (f ∷ fs) = Above f.name fs × Rising fs

above_is : (n : List ℕ) (l : List File) → is_above n l ≡ true → Above n l
above_is n [] e = tt
above_is n (f ∷ fs) e = is_less_lem (compare_lists n f.name) e

pub rising_is : (l : List File) → is_rising l ≡ true → Rising l
rising_is [] e = tt
rising_is (f ∷ fs) e = let q = both_true (is_above f.name fs) (is_rising fs) e in (above_is f.name fs q.0, rising_is fs q.1)

above_test : (n : List ℕ) (l : List File) → Above n l → is_above n l ≡ true
above_test n [] a = refl
above_test n (f ∷ fs) a = ap is_less a

pub rising_test : (l : List File) → Rising l → is_rising l ≡ true
rising_test [] r = refl
rising_test (f ∷ fs) r = rw (above_test f.name fs r.0, rising_test fs r.1) refl
