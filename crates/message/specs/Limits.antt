-- The most that a field of a message may have.
use Rattle.std.specs.Prelude.{ℕ}

-- a Message ID
abbrev pub id_limit : ℕ
id_limit = 4095

-- bytes of a Repository
abbrev pub repository_limit : ℕ
repository_limit = 64

-- files in a message
abbrev pub files_limit : ℕ
files_limit = 512

-- bytes of Data
abbrev pub data_limit : ℕ
data_limit = 131072

-- options in a message
abbrev pub options_limit : ℕ
options_limit = 64
