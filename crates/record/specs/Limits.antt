-- The sizes of fields, and the most that they may have.
use Rattle.std.specs.Prelude.{ℕ}

-- bytes of a Name
abbrev pub name_limit : ℕ
name_limit = 255

-- Flags are below this: their top 18 bits are zero
abbrev pub flags_bound : ℕ
flags_bound = 16384

-- blocks of a file
abbrev pub blocks_limit : ℕ
blocks_limit = 1024

-- the Length of a block or of a Request
abbrev pub size_limit : ℕ
size_limit = 131072

-- bytes of a Key
abbrev pub key_limit : ℕ
key_limit = 64

-- bytes of a Value
abbrev pub value_limit : ℕ
value_limit = 255

-- bytes of a Hash
abbrev pub hash_length : ℕ
hash_length = 32

-- bytes that a block takes
abbrev pub block_bytes : ℕ
block_bytes = 40
