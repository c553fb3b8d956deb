-- For a walk over two tables: whose record comes next, by their names.
use Rattle.std.specs.Prelude.{List, ℕ, Some, None}
use Rattle.std.specs.declared.option.Option.{Option}
use Rattle.record.specs.Outline.{outline_of}
use Rattle.record.specs.declared.outline.RecordFields.{RecordFields}
use Rattle.order.specs.Order.{compare_lists, part}
use Rattle.std.specs.declared.cmp.Ordering.{Ordering}
use Rattle.std.specs.declared.cmp.Ordering.TheVariants.{Less, Equal, Greater}
use Rattle.table.specs.declared.side.Side.{Side}
use Rattle.table.specs.declared.side.Side.TheVariants.{Left, Right, Both}

-- two records, by how their names compare
abbrev pub side_by : Ordering → (f g : RecordFields) → Side
side_by Less f g = Left f.past
side_by Equal f g = Both f g
side_by Greater f g = Right g.past

-- two records, each in its own bytes
abbrev pub side_of_two : List ℕ → RecordFields → List ℕ → RecordFields → Side
side_of_two a f b g = side_by (compare_lists (part a f.name f.stop) (part b g.name g.stop)) f g

-- by the records at a place of each, where there are any
abbrev pub side_of : List ℕ → Option RecordFields → List ℕ → Option RecordFields → Option Side
side_of a None b None = None
side_of a None b (Some g) = Some (Right g.past)
side_of a (Some f) b None = Some (Left f.past)
side_of a (Some f) b (Some g) = Some (side_of_two a f b g)

-- where a walk has come to i and j: none where no record is left
abbrev pub side_at : List ℕ → ℕ → List ℕ → ℕ → Option Side
side_at a i b j = side_of a (outline_of a i) b (outline_of b j)
