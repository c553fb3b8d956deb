-- What stands in for a file that can't be opened.
use Rattle.std.specs.Prelude.{ℕ, List, [], ◌∷◌, Bool, cond}

-- the empty table for a file that isn't there; for another no bytes, which are no table
abbrev pub stand_in : (absent : Bool) → List ℕ
stand_in absent = cond absent (0 ∷ 0 ∷ 0 ∷ 0 ∷ []) []
