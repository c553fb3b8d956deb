-- Which blocks a record lists, and whether records list a block: anywhere, or at an offset under a name.
use Rattle.std.specs.Prelude.{ℕ, zero, suc, ◌+◌, List, [], ◌∷◌, Bool, false, not, cond, ◌&&◌, ◌||◌, eqb}
use Rattle.record.specs.Block.{Block}
use Rattle.record.specs.File.{File, is_deleted, is_invalid}
use Rattle.order.specs.Order.{is_equal, compare_lists}

-- valid and undeleted, by the Flags
abbrev pub is_current : ℕ → Bool
is_current flags = not (is_invalid flags) && not (is_deleted flags)

-- the blocks that a record lists: all, or none where it is invalid or deleted
abbrev pub listed : File → List Block
listed f = cond (is_current f.flags) f.blocks []

-- the block with a Length and a hash
abbrev pub block_with : (size : ℕ) → (hash : List ℕ) → Block
block_with size hash = record { size = size; hash = hash }

-- block number n of some, the first of which stands at an offset: what is told of its offset and of itself, or `none`
abbrev pub block_numbered : {A : Type 0} → (none : A) → (told : (offset : ℕ) → Block → A) → (n offset : ℕ) → List Block → A
block_numbered none told n offset [] = none
block_numbered none told zero offset (b ∷ l) = told offset b
block_numbered none told (suc n) offset (b ∷ l) = block_numbered none told n (offset + b.size) l

-- the same Length and hash
abbrev pub is_same : Block → Block → Bool
is_same b c = eqb b.size c.size && is_equal (compare_lists b.hash c.hash)

-- one of some blocks has this Length and hash
abbrev pub has_block : List Block → Block → Bool
has_block [] b = false
has_block (c ∷ l) b = is_same c b || has_block l b

-- a block is held: one of the records, of any name, lists its Length and hash at any offset
abbrev pub is_held : List File → Block → Bool
is_held [] b = false
is_held (f ∷ fs) b = has_block (listed f) b || is_held fs b

-- one of some blocks, the first at offset `from`, stands at this offset with this Length and hash
abbrev pub has_there : (from : ℕ) → List Block → (offset : ℕ) → Block → Bool
has_there from [] offset b = false
has_there from (c ∷ l) offset b = (eqb from offset && is_same c b) || has_there (from + c.size) l offset b

-- the record of a name lists a block there: its Length and hash at an offset
abbrev pub lists_there : List File → (name : List ℕ) → (offset : ℕ) → Block → Bool
lists_there [] name offset b = false
lists_there (f ∷ fs) name offset b = cond (is_equal (compare_lists f.name name)) (has_there 0 (listed f) offset b) (lists_there fs name offset b)
