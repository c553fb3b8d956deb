-- For the steps of accepting: which record comes next, the message's or the old table's.
use Rattle.std.specs.Prelude.{ℕ, List, cond, length, get_or, ltb}
use Rattle.std.specs.declared.option.Option.{Option}
use Rattle.record.specs.declared.outline.RecordFields.{RecordFields}
use Rattle.table.specs.Steps.Side.{side_at}
use Rattle.merge.specs.Steps.Next.{from_left, next_by}
use Rattle.merge.specs.declared.next.Pick.{Pick}

-- the place of number i of the message's records in order, or the end where none is left
abbrev pub place_of : (s places : List ℕ) → (i : ℕ) → ℕ
place_of s places i = cond (ltb i (length places)) (get_or places i 0) (length s)

-- of one name the message's record
abbrev pub replacing_step : (at : ℕ) → (f g : RecordFields) → Pick
replacing_step at f g = from_left at f.past g.past

-- the next record where the message's stands at a place, and the old table has come to j
unfoldable pub next_over : (s : List ℕ) → (at : ℕ) → (old : List ℕ) → (j : ℕ) → Option Pick
next_over s at old j = next_by (replacing_step at) at j (side_at s at old j)
