-- For the steps of the list: an index of the blocks that a table lists, 8,192 slots with the places of blocks, and 0 where a slot is free.
use Rattle.std.specs.Prelude.{ℕ, zero, suc, ◌+◌, ◌*◌, ◌/◌, ◌%◌, ◌≤◌, ◌<◌, List, ◌≡◌, Bool, true, false, cond, length, get_or, set, eqb}
use Rattle.record.specs.Block.{Block}
use Rattle.table.specs.Table.{records}
use Rattle.want.specs.Listing.{is_same, is_held}
use Rattle.want.specs.Steps.Blocks.{block_here}
use Rattle.want.specs.declared.index.Slot.{Slot}
use Rattle.want.specs.declared.index.Slot.TheVariants.{Free, Present, Full}

-- 13 bits of four bytes, mixed
abbrev pub mixed : (a b c d : ℕ) → ℕ
mixed a b c d = (a + b * 256 + c * 65536 + d * 16777216) * 2654435769 / 524288 % 8192

-- the slot where the search for a hash begins, by its last four bytes
unfoldable pub key_of : List ℕ → ℕ
key_of h = mixed (get_or h 28 0) (get_or h 29 0) (get_or h 30 0) (get_or h 31 0)

-- the slot after a slot
abbrev pub next_slot : ℕ → ℕ
next_slot i = (i + 1) % 8192

-- how a search for a block through so many slots from slot i on ends
unfoldable pub slot_from : (t index : List ℕ) → (i left : ℕ) → Block → Slot
slot_from t index i zero b = Full
slot_from t index i (suc left) b =
    cond (eqb (get_or index i 0) 0) (Free i) (cond (is_same (block_here t (get_or index i 0)) b) Present (slot_from t index (next_slot i) left b))

-- how the search for a block ends, which looks at 64 slots at most
unfoldable pub slot_of : (t index : List ℕ) → Block → Slot
slot_of t index b = slot_from t index (key_of b.hash) 64 b

-- the search found it
abbrev pub is_present : Slot → Bool
is_present (Free i) = false
is_present Present = true
is_present Full = false

-- it is in the index after it was put there
abbrev pub is_placed : Slot → Bool
is_placed (Free i) = true
is_placed Present = true
is_placed Full = false

-- the index after the block at a place was put there
abbrev pub placed : List ℕ → (p : ℕ) → Slot → List ℕ
placed index p (Free i) = set index i p
placed index p Present = index
placed index p Full = index

-- all slots are free
pub record Empty (index : List ℕ) : Type 0 where
  pub long : length index ≡ 8192
  pub free : (i : ℕ) → get_or index i 0 ≡ 0

-- in each slot that isn't free is the place of 40 bytes of the table
abbrev pub Within : (t index : List ℕ) → Type 0
Within t index = (i : ℕ) → 0 < get_or index i 0 → get_or index i 0 + 40 ≤ length t

-- an index: in each slot that isn't free is the place of a block that the table lists, and the search finds each block that it lists
pub record Indexed (t index : List ℕ) : Type 0 where
  pub long : length index ≡ 8192
  pub within : Within t index
  pub sound : (i : ℕ) → 0 < get_or index i 0 → is_held (records t) (block_here t (get_or index i 0)) ≡ true
  pub whole : (b : Block) → is_held (records t) b ≡ true → slot_of t index b ≡ Present

-- an index, or no slots where there is none
abbrev pub Serves : (t index : List ℕ) → Type 0
Serves t index = 0 < length index → Indexed t index
