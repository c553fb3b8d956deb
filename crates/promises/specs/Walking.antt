-- Steps of a walker, one after another.
use Rattle.std.specs.declared.result.Result.{Result}
use Rattle.std.specs.declared.option.Option.{Option}
use Rattle.xdr.specs.declared.answer.Refusal.{Refusal}
use Rattle.std.specs.Prelude.{Ok, Some, None}
use Rattle.std.specs.Prelude.{ℕ, zero, suc, ◌+◌, List, [], ◌∷◌, ◌++◌, ◌≡◌, length, replicate}
use Rattle.xdr.specs.Format.{encode}
use Rattle.record.specs.File.{File, file}
use Rattle.record.specs.Outline.{fields_of}
use Rattle.table.specs.Table.{records}
use Rattle.walker.specs.Walk.{given, stepped}
use Rattle.record.specs.declared.outline.RecordFields.{RecordFields}
use Rattle.walker.specs.declared.Walker.{Walker}

-- what so many steps give
abbrev pub walked : Walker → ℕ → List (Result (Option RecordFields) Refusal)
walked w zero = []
walked w (suc n) = given w ∷ walked (stepped w) n

-- the walker after them
abbrev pub walked_on : Walker → ℕ → Walker
walked_on w zero = w
walked_on w (suc n) = walked_on (stepped w) n

-- some records, the first of which begins at a place, as steps give them
abbrev pub as_steps : (at : ℕ) → List File → List (Result (Option RecordFields) Refusal)
as_steps at [] = []
as_steps at (f ∷ fs) = Ok (Some (fields_of at f)) ∷ as_steps (at + length (encode file f)) fs

-- a walker yields the records of its table, one after another, and then the end, where it stays
pub record Yields (w : Walker) : Type 0 where
  pub gives : (n : ℕ) → walked w (length (records w.table.now) + n) ≡ as_steps 4 (records w.table.now) ++ replicate n (Ok None)
  pub stays : (n : ℕ) → (walked_on w (length (records w.table.now) + n)).at ≡ length w.table.now
