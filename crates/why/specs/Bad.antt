-- Which table is bad.
use Rattle.std.specs.Prelude.{ℕ, ◌+◌, List, [], ◌∷◌, cond}
use Rattle.table.specs.Table.{is_good}

-- the first of some tables, counted from k, that is not good; the number after theirs where all are
abbrev pub first_bad : (k : ℕ) → List (List ℕ) → ℕ
first_bad k [] = k
first_bad k (t ∷ ts) = cond (is_good t) (first_bad (k + 1) ts) k
