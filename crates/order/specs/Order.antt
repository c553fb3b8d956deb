-- Comparing to less, equal or greater.
use Rattle.std.specs.Prelude.{ℕ, ◌-◌, List, [], ◌∷◌, Bool, cond, take, drop, ltb}
use Rattle.std.specs.declared.cmp.Ordering.{Ordering}
use Rattle.std.specs.declared.cmp.Ordering.TheVariants.{Less, Equal, Greater}
use Rattle.std.specs.Ordering.{is_lt, is_eq}

-- the first is lower
abbrev pub is_less : Ordering → Bool
is_less o = is_lt o

-- neither is lower
abbrev pub is_equal : Ordering → Bool
is_equal o = is_eq o

-- the first that is not equal decides
abbrev pub or_else : Ordering → Ordering → Ordering
or_else Less o = Less
or_else Equal o = o
or_else Greater o = Greater

-- two numbers
unfoldable pub compare_numbers : ℕ → ℕ → Ordering
compare_numbers m n = cond (ltb m n) Less (cond (ltb n m) Greater Equal)

-- lexicographic: by the first place where they differ, a proper prefix being lower
unfoldable pub compare_lists : List ℕ → List ℕ → Ordering
compare_lists [] [] = Equal
compare_lists [] (y ∷ ys) = Less
compare_lists (x ∷ xs) [] = Greater
compare_lists (x ∷ xs) (y ∷ ys) = or_else (compare_numbers x y) (compare_lists xs ys)

-- the bytes from one place to another, as far as there are any
abbrev pub part : List ℕ → (from to : ℕ) → List ℕ
part s from to = take (to - from) (drop from s)
