-- What a line shows of a name.
use Rattle.std.specs.Prelude.{ℕ, Bool, not, ◌&&◌, leb, eqb}

-- a byte stands as it is: it is no control byte, nor the backslash that those are written with
abbrev pub is_plain : ℕ → Bool
is_plain b = leb 32 b && (not (eqb b 92) && not (eqb b 127))
