-- For the steps of the search and of the list: the blocks at places of some bytes.
use Rattle.std.specs.Prelude.{ℕ, zero, suc, ◌+◌, List, [], ◌∷◌, cond, take, drop}
use Rattle.record.specs.Limits.{hash_length}
use Rattle.record.specs.Block.{Block}
use Rattle.record.specs.Outline.{word_at, block_place}
use Rattle.record.specs.declared.outline.RecordFields.{RecordFields}
use Rattle.want.specs.Listing.{is_current, block_with}

-- the block at a place
abbrev pub block_here : List ℕ → ℕ → Block
block_here s at = block_with (word_at s at) (take hash_length (drop (at + 8) s))

-- so many blocks from block j on, block 0 being at `first`
abbrev pub blocks_from : List ℕ → (first j left : ℕ) → List Block
blocks_from s first j zero = []
blocks_from s first j (suc left) = block_here s (block_place first j) ∷ blocks_from s first (j + 1) left

-- how many blocks a record lists
abbrev pub listed_count : RecordFields → ℕ
listed_count f = cond (is_current f.flags) f.blocks 0
