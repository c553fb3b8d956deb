-- For the steps of a merge: which record it takes next, where it has come to a place of each table, and where it goes on.
use Rattle.std.specs.Prelude.{ℕ, List, true, false, cond, Some, None}
use Rattle.std.specs.declared.option.Option.{Option}
use Rattle.record.specs.declared.outline.RecordFields.{RecordFields}
use Rattle.order.specs.Order.{part}
use Rattle.table.specs.Newest.{compare_at}
use Rattle.table.specs.Steps.Side.{side_at}
use Rattle.table.specs.declared.side.Side.{Side}
use Rattle.table.specs.declared.side.Side.TheVariants.{Left, Right, Both}
use Rattle.std.specs.declared.cmp.Ordering.{Ordering}
use Rattle.std.specs.declared.cmp.Ordering.TheVariants.{Less, Equal, Greater}
use Rattle.merge.specs.declared.next.Pick.{Pick}

-- the record of the first table at i up to x, the second going on at j
abbrev pub from_left : (i x j : ℕ) → Pick
from_left i x j = record { left = true; start = i; end = x; i = x; j = j }

-- the record of the second table at j up to y, the first going on at i
abbrev pub from_right : (j y i : ℕ) → Pick
from_right j y i = record { left = false; start = j; end = y; i = i; j = y }

-- records of one name at i up to x and at j up to y, by which is the higher
abbrev pub higher_step : Ordering → (i x j y : ℕ) → Pick
higher_step Less i x j y = from_right j y x
higher_step Equal i x j y = from_left i x y
higher_step Greater i x j y = from_left i x y

-- two of one name by their fields, each in its own table
abbrev pub higher_of : List ℕ → ℕ → List ℕ → ℕ → (f g : RecordFields) → Pick
higher_of a i b j f g = higher_step (compare_at a f b g) i f.past j g.past

-- by whose record comes next at i and j; `both` is for two of one name, and none is left where neither has one
abbrev pub next_by : (both : RecordFields → RecordFields → Pick) → (i j : ℕ) → Option Side → Option Pick
next_by both i j None = None
next_by both i j (Some (Left x)) = Some (from_left i x j)
next_by both i j (Some (Right y)) = Some (from_right j y i)
next_by both i j (Some (Both f g)) = Some (both f g)

-- the next record where a merge has come to i and j
unfoldable pub next_of : List ℕ → ℕ → List ℕ → ℕ → Option Pick
next_of a i b j = next_by (higher_of a i b j) i j (side_at a i b j)

-- the bytes that are taken
abbrev pub step_bytes : List ℕ → List ℕ → Pick → List ℕ
step_bytes a b s = part (cond s.left a b) s.start s.end
