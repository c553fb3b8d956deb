-- What a call left of its buffer.
use Rattle.std.specs.Prelude.{ℕ, List, [], ◌∷◌, Bool, true, false, cond, eqb}

-- every byte is the one that the cases fill a buffer with before a call
abbrev pub is_untouched : List ℕ → Bool
is_untouched [] = true
is_untouched (b ∷ l) = cond (eqb b 238) (is_untouched l) false
