-- The first byte of the field that is not wholly there, of a record or an option that its bytes cut short: by its lengths alone.
use Rattle.std.specs.Prelude.{ℕ, ◌+◌, ◌-◌, ◌*◌, ◌/◌, ◌%◌, cond, List, length, nat_le, nat_lt}
use Rattle.record.specs.Limits.{block_bytes}
use Rattle.record.specs.Outline.{past_string}

-- of blocks from a place on, of which so many bytes are there: the Length or the Hash of the first that is not
abbrev pub missing_block : (first left : ℕ) → ℕ
missing_block first left = first + left / block_bytes * block_bytes + cond (nat_lt (left % block_bytes) 4) 0 4

-- of a record from Flags on, of which so many bytes are there: Flags, Modified, Version, the number of blocks, or a block
abbrev pub missing_after : (rest left : ℕ) → ℕ
missing_after rest left =
    cond (nat_lt left 4) rest (cond (nat_lt left 12) (rest + 4) (cond (nat_lt left 16) (rest + 12) (cond (nat_lt left 20) (rest + 16) (missing_block (rest + 20) (left - 20)))))

-- of the record at a place: its Name first
unfoldable pub missing_of : List ℕ → ℕ → ℕ
missing_of s at = cond (nat_le (past_string s at) (length s)) (missing_after (past_string s at) (length s - past_string s at)) at

-- of the option at a place: its Key, or else its Value
unfoldable pub missing_option : List ℕ → ℕ → ℕ
missing_option s at = cond (nat_le (past_string s at) (length s)) (past_string s at) at
