-- For the steps of the list: runs of blocks, marks in them, and the runs that the peers list under a name.
use Rattle.std.specs.Prelude.{Some, None}
use Rattle.std.specs.declared.option.Option.{Option}
use Rattle.std.specs.Prelude.{ℕ, ◌+◌, ◌-◌, ◌*◌, ◌≤◌, ◌<◌, List, [], ◌∷◌, ◌≡◌, Bool, cond, eqb, length, get_or}
use Rattle.record.specs.Block.{Block}
use Rattle.record.specs.Outline.{outline_of, blocks_size}
use Rattle.want.specs.Listing.{has_there}
use Rattle.want.specs.Steps.Blocks.{blocks_from, listed_count}
use Rattle.want.specs.Steps.Places.{table_at, place_at, first_of}
use Rattle.table.specs.Table.{records}
use Rattle.want.specs.Wanted.{wanted_block, wanted_blocks}
use Rattle.want.specs.declared.list.Wanted.{Wanted}
use Rattle.want.specs.declared.turn.Turn.{Turn}
use Rattle.want.specs.declared.run.Run.{Run}
use Rattle.want.specs.declared.run.Mark.{Mark}
use Rattle.record.specs.declared.outline.RecordFields.{RecordFields}

-- one of the blocks of a run, from a mark on, is this one at an offset
abbrev pub is_ahead : List ℕ → Run → Mark → (offset : ℕ) → Block → Bool
is_ahead t r m offset b = has_there m.from (blocks_from t r.first m.j (r.count - m.j)) offset b

-- one of the blocks of a run is this one at an offset
abbrev pub has_run : List ℕ → Run → (offset : ℕ) → Block → Bool
has_run t r offset b = has_there 0 (blocks_from t r.first 0 r.count) offset b

-- a mark in a run of blocks that are within the bytes; its offset has room to grow
pub record MarkIn (t : List ℕ) (r : Run) (m : Mark) : Type 0 where
  pub whole : r.first + blocks_size r.count ≤ length t
  pub few : m.j ≤ r.count
  pub small : m.from ≤ m.j * 4294967295

-- and at this offset and later ones, what the run has stands from the mark on
pub record Marked (t : List ℕ) (r : Run) (m : Mark) (offset : ℕ) : Type 0 where
  pub within : MarkIn t r m
  pub told : (o : ℕ) (b : Block) → offset ≤ o → has_run t r o b ≡ is_ahead t r m o b

-- no blocks
abbrev pub no_run : Run
no_run = record { first = 0; count = 0 }

-- run k
abbrev pub run_at : List Run → ℕ → Run
run_at rs k = get_or rs k no_run

-- by its outline: the blocks that a record lists
abbrev pub run_by : Option RecordFields → Run
run_by None = no_run
run_by (Some f) = record { first = f.first; count = listed_count f }

-- the blocks that the record at a place lists, where the table goes on past it
unfoldable pub run_from : List ℕ → (at past : ℕ) → Run
run_from t at past = cond (eqb at past) no_run (run_by (outline_of t at))

-- those of the peers' records; none of the local one's
abbrev pub runs_from : List (List ℕ) → (ps past : List ℕ) → List Run
runs_from ts ps past =
    no_run
    ∷ run_from (table_at ts 1) (place_at ps 1) (place_at past 1)
    ∷ run_from (table_at ts 2) (place_at ps 2) (place_at past 2)
    ∷ run_from (table_at ts 3) (place_at ps 3) (place_at past 3)
    ∷ run_from (table_at ts 4) (place_at ps 4) (place_at past 4)
    ∷ []

-- the lowest peer whose run has a block at an offset; 0 where none has
abbrev pub peer_in : List (List ℕ) → List Run → (offset : ℕ) → Block → ℕ
peer_in ts rs offset b = first_of (λ k. has_run (table_at ts k) (run_at rs k) offset b) 1 4

-- the mark of two numbers
abbrev pub mark_of : (j from : ℕ) → Mark
mark_of j from = record { j = j; from = from }

-- mark k
abbrev pub mark_at : List Mark → ℕ → Mark
mark_at ms k = get_or ms k (mark_of 0 0)

-- a mark in each run
pub record Along (ts : List (List ℕ)) (rs : List Run) (ms : List Mark) (offset : ℕ) : Type 0 where
  pub many : length ms ≡ 5
  pub marked : (k : ℕ) → k < 5 → Marked (table_at ts k) (run_at rs k) (mark_at ms k) offset

-- the runs are within the tables
abbrev pub InTables : List (List ℕ) → List Run → Type 0
InTables ts rs = (k : ℕ) → k < 5 → (run_at rs k).first + blocks_size (run_at rs k).count ≤ length (table_at ts k)

-- the entry for a block that the peers list in these runs
abbrev pub wanted_here : List (List ℕ) → List Run → (file j offset : ℕ) → Block → List Wanted
wanted_here ts rs file j offset b = wanted_block (records (table_at ts 0)) (peer_in ts rs) file j offset b

-- the entries for so many blocks from j on
abbrev pub wanted_run : List (List ℕ) → List Run → (file j offset : ℕ) → (t : List ℕ) → (first left : ℕ) → List Wanted
wanted_run ts rs file j offset t first left = wanted_blocks (records (table_at ts 0)) (peer_in ts rs) file j offset (blocks_from t first j left)

-- the entries for the record that is next
abbrev pub wanted_turn : List (List ℕ) → (ps past : List ℕ) → (best : ℕ) → Turn → (file : ℕ) → List Wanted
wanted_turn ts ps past best r file = wanted_run ts (runs_from ts ps past) file 0 0 (table_at ts best) r.first r.count
