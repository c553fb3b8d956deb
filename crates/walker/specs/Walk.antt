-- What a walk over a table finds, and where it goes.
use Rattle.std.specs.Prelude.{ℕ, ◌+◌, List, [], ◌∷◌, cond, length, eqb, Ok, Err, Some, None}
use Rattle.std.specs.declared.result.Result.{Result}
use Rattle.std.specs.declared.option.Option.{Option}
use Rattle.xdr.specs.Answers.{at_start}
use Rattle.xdr.specs.Format.{encode}
use Rattle.xdr.specs.declared.answer.Refusal.{Refusal}
use Rattle.record.specs.File.{File, file}
use Rattle.record.specs.Outline.{fields_of}
use Rattle.record.specs.declared.outline.RecordFields.{RecordFields}
use Rattle.table.specs.Table.{is_good, records}
use Rattle.walker.specs.declared.Walker.{Walker}

-- 15: no good table, or a place that starts no record and isn't the end
abbrev pub bad : Result (Option RecordFields) Refusal
bad = Err (at_start 15)

-- what stands at a place, where the first of the records stands at `first`: one of them, or their end
abbrev pub step_among : List File → (first at : ℕ) → Result (Option RecordFields) Refusal
step_among [] first at = cond (eqb first at) (Ok None) bad
step_among (f ∷ fs) first at = cond (eqb first at) (Ok (Some (fields_of first f))) (step_among fs (first + length (encode file f)) at)

-- what stands at a place of a table
unfoldable pub step_at : List ℕ → ℕ → Result (Option RecordFields) Refusal
step_at t at = cond (is_good t) (step_among (records t) 4 at) bad

-- the place after a step: past the record, or the same
abbrev pub next_place : Result (Option RecordFields) Refusal → ℕ → ℕ
next_place (Ok (Some f)) at = f.past
next_place (Ok None) at = at
next_place (Err r) at = at

-- what a walker's step gives
abbrev pub given : Walker → Result (Option RecordFields) Refusal
given w = step_at w.table.now w.at

-- the walker after a step: the same table, and the place past the record, or the same place
abbrev pub stepped : Walker → Walker
stepped w = record { table = w.table; at = next_place (given w) w.at }
