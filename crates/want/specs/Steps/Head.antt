-- For the steps of the list: the next name over several tables, with a place in each: the table with its highest record, and where each goes on after it.
use Rattle.std.specs.Prelude.{Some, None}
use Rattle.std.specs.declared.option.Option.{Option}
use Rattle.std.specs.Prelude.{ℕ, ◌+◌, ◌-◌, ◌≤◌, ◌<◌, List, [], ◌∷◌, ◌≡◌, length}
use Rattle.record.specs.File.{File}
use Rattle.record.specs.Outline.{word_at, past_string, fields_from, outline_of, fields_of}
use Rattle.record.specs.declared.outline.RecordFields.{RecordFields}
use Rattle.order.specs.Order.{compare_lists, part}
use Rattle.std.specs.declared.cmp.Ordering.{Ordering}
use Rattle.std.specs.declared.cmp.Ordering.TheVariants.{Less, Equal, Greater}
use Rattle.table.specs.Newest.{compare_at}
use Rattle.table.specs.Steps.Standing.{At}
use Rattle.want.specs.Steps.Places.{table_at, place_at, lowest_from, past_name}
use Rattle.want.specs.declared.head.Rank.{Rank}
use Rattle.want.specs.declared.head.Rank.TheVariants.{Before, Same, Newer, After}

-- a record's name
abbrev pub name_at : List ℕ → RecordFields → List ℕ
name_at t f = part t f.name f.stop

-- the fields of the record at a place, by the bytes there
abbrev pub fields_at : List ℕ → ℕ → RecordFields
fields_at t at = fields_from t (at + 4) (at + 4 + word_at t at) (past_string t at)

-- records stand from a place on
abbrev pub Stands : List ℕ → ℕ → Type 0
Stands t at = (fs : List File) × At t at fs

-- fields that are those of a record that stands somewhere
pub record Stood (t : List ℕ) (f : RecordFields) : Type 0 where
  pub place : ℕ
  pub head : File
  pub tail : List File
  pub fields_are : f ≡ fields_of place head
  pub here : At t place (head ∷ tail)

-- an outline of a place where records stand
abbrev pub Kept : List ℕ → Option RecordFields → Type 0
Kept t o = (at : ℕ) × (o ≡ outline_of t at) × Stands t at

-- the same numbers
pub record AlikeFields (f g : RecordFields) : Type 0 where
  pub modified_same : f.modified ≡ g.modified
  pub version_same : f.version ≡ g.version
  pub blocks_same : f.blocks ≡ g.blocks
  pub flags_same : f.flags ≡ g.flags

-- by how the names compare, and where these are the same by which is the higher
abbrev pub rank_in : (names records : Ordering) → Rank
rank_in Less o = Before
rank_in Greater o = After
rank_in Equal Less = Newer
rank_in Equal Equal = Same
rank_in Equal Greater = Same

-- two records, each in its own bytes
abbrev pub rank_by : List ℕ → RecordFields → List ℕ → RecordFields → Rank
rank_by a f b g = rank_in (compare_lists (name_at a f) (name_at b g)) (compare_at a f b g)

-- how the record of the second stands to that of the first, by the outlines of what stands at their places
abbrev pub rank_of : List ℕ → Option RecordFields → List ℕ → Option RecordFields → Rank
rank_of a f b None = Before
rank_of a None b (Some g) = After
rank_of a (Some f) b (Some g) = rank_by a f b g

-- where a table goes on after its record
abbrev pub past_of : Option RecordFields → ℕ → ℕ
past_of None at = at
past_of (Some f) at = f.past

-- a table goes on at x after a name, and has no record below it
pub record Passed (name t : List ℕ) (at x : ℕ) : Type 0 where
  pub is : x ≡ past_name name t at
  pub not_lower : (g : RecordFields) → outline_of t at ≡ Some g → compare_lists (name_at t g) name ≡ Less → ⊥

-- the same by the record that has the name; where there is none, the table has none too
abbrev pub Behind : (best : List ℕ) → Option RecordFields → (t : List ℕ) → (at x : ℕ) → Type 0
Behind best None t at x = (outline_of t at ≡ None) × (x ≡ at)
Behind best (Some f) t at x = Passed (name_at best f) t at x

-- of the tables below k, `best` has the next record, with these fields; `past` is where they go on after its name, and of the other tables the places
pub record Headed (ts : List (List ℕ)) (ps : List ℕ) (k best : ℕ) (fields : Option RecordFields) (past : List ℕ) : Type 0 where
  pub low : lowest_from ts ps 0 1 4 ≡ lowest_from ts ps best k (5 - k)
  pub small : best < 5
  pub fields_are : fields ≡ outline_of (table_at ts best) (place_at ps best)
  pub behind : (i : ℕ) → i < k → Behind (table_at ts best) fields (table_at ts i) (place_at ps i) (place_at past i)
  pub ahead : (i : ℕ) → k ≤ i → place_at past i ≡ place_at ps i
  pub long : length past ≡ 5

-- in each table, records stand from its place on
abbrev pub AllStand : List (List ℕ) → List ℕ → Type 0
AllStand ts ps = (k : ℕ) → k < 5 → Stands (table_at ts k) (place_at ps k)

-- the name of a record, where there is one
abbrev pub name_in : List ℕ → Option RecordFields → List (List ℕ)
name_in t None = []
name_in t (Some f) = name_at t f ∷ []

-- two of these: where there is none, it comes last
abbrev pub order_in : (m n : List (List ℕ)) → Ordering
order_in m [] = Less
order_in [] (y ∷ n) = Greater
order_in (x ∷ m) (y ∷ n) = compare_lists x y

-- where the tables go on after the next name, whichever table has its highest record; none where they have ended
pub record Passes (ts : List (List ℕ)) (ps : List ℕ) (x : Option (List ℕ)) : Type 0 where
  pub best : ℕ
  pub fields : Option RecordFields
  pub past : List ℕ
  pub headed : Headed ts ps 5 best fields past
  pub none : x ≡ None → fields ≡ None
  pub some : (qs : List ℕ) → x ≡ Some qs → (qs ≡ past) × (f : RecordFields) × (fields ≡ Some f)
