-- What a file's mode tells of its kind.
use Rattle.std.specs.Prelude.{ℕ, ◌/◌, ◌%◌, Bool, not, ◌&&◌, eqb}

-- the four bits above the twelve of the permissions: 0 where nothing is known, 8 for a regular file
abbrev pub kind : ℕ → ℕ
kind mode = mode / 4096 % 16

-- the file is known, and no regular one
abbrev pub is_other : ℕ → Bool
is_other mode = not (eqb (kind mode) 0) && not (eqb (kind mode) 8)
