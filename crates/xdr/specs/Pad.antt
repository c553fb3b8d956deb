-- The zero bytes after a string or an opaque, up to a multiple of four.
use Rattle.std.specs.Prelude.{ℕ, suc, ◌+◌, ◌*◌, ◌/◌, List, [], ◌∷◌, Bool, cond, length, eqb}

-- the bytes that n bytes take with their pad
abbrev pub padded : ℕ → ℕ
padded n = (n + 3) / 4 * 4

-- the position of the first byte that is not zero, or the number of bytes where all are
abbrev pub zeros_up_to : List ℕ → ℕ
zeros_up_to [] = 0
zeros_up_to (b ∷ l) = cond (eqb b 0) (suc (zeros_up_to l)) 0

-- all bytes are zero
unfoldable pub all_zero : List ℕ → Bool
all_zero l = eqb (zeros_up_to l) (length l)
