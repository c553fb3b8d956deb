-- The number that decimal digits say.
use Rattle.std.specs.Prelude.{ℕ, ◌+◌, ◌-◌, ◌*◌, List, [], ◌∷◌, Bool, cond, ◌&&◌, leb, Some, None}
use Rattle.std.specs.declared.option.Option.{Option}

-- 0 to 9
abbrev pub is_digit : ℕ → Bool
is_digit c = leb 48 c && leb c 57

-- the digits that are left, after others that say n; no more than 32 bits hold
abbrev pub digits_from : (n : ℕ) → List ℕ → Option ℕ
digits_from n [] = Some n
digits_from n (c ∷ l) = cond (is_digit c) (cond (leb (n * 10 + (c - 48)) 4294967295) (digits_from (n * 10 + (c - 48)) l) None) None

-- one digit or more
abbrev pub number_of : List ℕ → Option ℕ
number_of [] = None
number_of (c ∷ l) = digits_from 0 (c ∷ l)
