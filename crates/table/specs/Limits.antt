-- How large a table may be.
use Rattle.std.specs.Prelude.{ℕ}

-- records of a table
abbrev pub records_limit : ℕ
records_limit = 512

-- bytes of a table
abbrev pub bytes_limit : ℕ
bytes_limit = 65536
