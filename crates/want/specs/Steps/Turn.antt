-- For the walks of the list: what they do about the record that is next.
use Rattle.std.specs.Prelude.{Some, None}
use Rattle.std.specs.declared.option.Option.{Option}
use Rattle.std.specs.Prelude.{ℕ}
use Rattle.want.specs.Steps.Places.{sought_of}
use Rattle.want.specs.declared.turn.Turn.{Turn}
use Rattle.record.specs.declared.outline.RecordFields.{RecordFields}

-- by the table that has it, and its fields; none where no record is left
abbrev pub turn_of : (best : ℕ) → Option RecordFields → Option Turn
turn_of best None = None
turn_of best (Some f) = Some (record { first = f.first; count = sought_of best f })
