-- What the details of a block give: the number that the call returns, and the words of its answer.
use Rattle.std.specs.Prelude.{ℕ, ◌-◌, ◌≤◌, List, [], ◌∷◌, ◌≡◌, Ok, Err, Some, None}
use Rattle.std.specs.declared.option.Option.{Option}
use Rattle.std.specs.declared.result.Result.{Result}
use Rattle.xdr.specs.declared.answer.Refusal.{Refusal}
use Rattle.want.specs.declared.entry.Details.{Details}

-- 0; 1 where there is no such block; or 15
abbrev pub details_number : Result (Option Details) Refusal → ℕ
details_number (Ok (Some d)) = 0
details_number (Ok None) = 1
details_number (Err r) = r.number

-- the table, the start and the length of the name there, the offset, the Length, and the start of the hash there; or zeros
abbrev pub details_words : Result (Option Details) Refusal → List ℕ
details_words (Ok (Some d)) = d.table ∷ d.name ∷ (d.stop - d.name) ∷ d.offset ∷ d.size ∷ d.hash ∷ []
details_words (Ok None) = 0 ∷ 0 ∷ 0 ∷ 0 ∷ 0 ∷ 0 ∷ []
details_words (Err r) = 0 ∷ 0 ∷ 0 ∷ 0 ∷ 0 ∷ 0 ∷ []

-- the number and the words of some details
abbrev pub Tells : Result (Option Details) Refusal → (number : ℕ) → (words : List ℕ) → Type 0
Tells d number words = (number ≡ details_number d) × (words ≡ details_words d)

-- a name stops no earlier than it begins
abbrev pub StopsAfter : Result (Option Details) Refusal → Type 0
StopsAfter (Ok (Some d)) = d.name ≤ d.stop
StopsAfter (Ok None) = Unit {0}
StopsAfter (Err r) = Unit {0}
