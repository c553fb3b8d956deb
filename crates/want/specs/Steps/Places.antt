-- For the steps of the list (`lists_at` serves the ruling too): five tables side by side, with a place in each, which record is next by name,
-- and what goes by the records at the places.
use Rattle.std.specs.Prelude.{Some, None}
use Rattle.std.specs.declared.option.Option.{Option}
use Rattle.std.specs.Prelude.{ℕ, zero, suc, ◌+◌, ◌<◌, List, [], ◌∷◌, map, ◌≡◌, Bool, true, false, cond, eqb, length, get_or, drop}
use Rattle.xdr.specs.Number.{IsBytes}
use Rattle.record.specs.Block.{Block}
use Rattle.record.specs.File.{File}
use Rattle.record.specs.Outline.{outline_of}
use Rattle.record.specs.declared.outline.RecordFields.{RecordFields}
use Rattle.table.specs.Table.{is_good, records}
use Rattle.order.specs.Order.{is_equal, compare_lists, part}
use Rattle.merge.specs.Steps.Next.{next_of}
use Rattle.want.specs.Listing.{is_held, has_there}
use Rattle.want.specs.Steps.Blocks.{blocks_from, listed_count}
use Rattle.want.specs.Wanted.{request_list}
use Rattle.want.specs.declared.list.Wanted.{Wanted}
use Rattle.merge.specs.declared.next.Pick.{Pick}

-- the first of two records is the next
abbrev pub is_first : Option Pick → Bool
is_first None = true
is_first (Some s) = s.left

-- table k
abbrev pub table_at : List (List ℕ) → ℕ → List ℕ
table_at ts k = get_or ts k []

-- the place in table k
abbrev pub place_at : List ℕ → ℕ → ℕ
place_at ps k = get_or ps k 0

-- of two tables the one with the next record
abbrev pub lower_of : List (List ℕ) → List ℕ → (best k : ℕ) → ℕ
lower_of ts ps best k = cond (is_first (next_of (table_at ts best) (place_at ps best) (table_at ts k) (place_at ps k))) best k

-- of `best` and so many tables from k on the one with the next record
unfoldable pub lowest_from : List (List ℕ) → List ℕ → (best k left : ℕ) → ℕ
lowest_from ts ps best k zero = best
lowest_from ts ps best k (suc left) = lowest_from ts ps (lower_of ts ps best k) (k + 1) left

-- by the outline at a place: the place after a record of that name, and otherwise the same place
abbrev pub past_by : (name t : List ℕ) → (at : ℕ) → Option RecordFields → ℕ
past_by name t at None = at
past_by name t at (Some f) = cond (is_equal (compare_lists (part t f.name f.stop) name)) f.past at

-- where a table goes on after a name: past the record at its place where it is of that name
unfoldable pub past_name : (name t : List ℕ) → (at : ℕ) → ℕ
past_name name t at = past_by name t at (outline_of t at)

-- where the tables go on after a name
abbrev pub places_after : List (List ℕ) → List ℕ → (name : List ℕ) → List ℕ
places_after ts ps name = map (λ k. past_name name (table_at ts k) (place_at ps k)) (0 ∷ 1 ∷ 2 ∷ 3 ∷ 4 ∷ [])

-- by its outline: a record is of that name and lists a block there
abbrev pub lists_by : (t name : List ℕ) → (offset : ℕ) → Block → Option RecordFields → Bool
lists_by t name offset b None = false
lists_by t name offset b (Some f) =
    cond (is_equal (compare_lists (part t f.name f.stop) name)) (has_there 0 (blocks_from t f.first 0 (listed_count f)) offset b) false

-- the record at a place is of that name and lists a block there
unfoldable pub lists_at : (t : List ℕ) → (at : ℕ) → (name : List ℕ) → (offset : ℕ) → Block → Bool
lists_at t at name offset b = lists_by t name offset b (outline_of t at)

-- the lowest of so many numbers from k on that is one of these; 0 where none is
unfoldable pub first_of : (ℕ → Bool) → (k left : ℕ) → ℕ
first_of is k zero = 0
first_of is k (suc left) = cond (is k) k (first_of is (k + 1) left)

-- the lowest peer whose record at its place is of that name and lists the block there; 0 where none does
abbrev pub peer_at : List (List ℕ) → List ℕ → (name : List ℕ) → (offset : ℕ) → Block → ℕ
peer_at ts ps name offset b = first_of (λ k. lists_at (table_at ts k) (place_at ps k) name offset b) 1 4

-- how many blocks of the next record may be missing, by the table that has it
abbrev pub sought_of : ℕ → RecordFields → ℕ
sought_of best f = cond (eqb best 0) 0 (listed_count f)

-- where the tables begin
abbrev pub starts : List ℕ
starts = 4 ∷ 4 ∷ 4 ∷ 4 ∷ 4 ∷ []

-- the record that is next at some places has no block that may be missing, and the tables go on at others
pub record Idle (ts : List (List ℕ)) (ps qs : List ℕ) : Type 0 where
  pub best : ℕ
  pub fields : RecordFields
  pub lowest : best ≡ lowest_from ts ps 0 1 4
  pub outline_is : outline_of (table_at ts best) (place_at ps best) ≡ Some fields
  pub none : sought_of best fields ≡ 0
  pub after : qs ≡ places_after ts ps (part (table_at ts best) fields.name fields.stop)

-- the places after so many such records
abbrev pub Begun : List (List ℕ) → (file : ℕ) → List ℕ → Type 0
Begun ts zero qs = qs ≡ starts
Begun ts (suc file) qs = (ps : List ℕ) × Begun ts file ps × Idle ts ps qs

-- how many blocks are not held
abbrev pub wanted_count : List File → List Block → ℕ
wanted_count local [] = 0
wanted_count local (b ∷ l) = cond (is_held local b) 0 1 + wanted_count local l

-- five good tables
pub record Five (ts : List (List ℕ)) : Type 0 where
  pub many : length ts ≡ 5
  pub bytes : (k : ℕ) → k < 5 → IsBytes (table_at ts k)
  pub good : (k : ℕ) → k < 5 → is_good (table_at ts k) ≡ true

-- the request list of the first, which is the local one, and the others
abbrev pub list_of : List (List ℕ) → List Wanted
list_of ts = request_list (records (table_at ts 0)) (map records (drop 1 ts))
