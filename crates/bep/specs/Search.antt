-- What a search for a block gives: the number that the call returns, and the words of its answer.
use Rattle.std.specs.Prelude.{ℕ, List, [], ◌∷◌, ◌≡◌, Ok, Err, Some, None}
use Rattle.std.specs.declared.option.Option.{Option}
use Rattle.std.specs.declared.result.Result.{Result}
use Rattle.xdr.specs.declared.answer.Refusal.{Refusal}
use Rattle.want.specs.declared.search.Found.{Found}

-- 0 whether or not there is one, or 15
abbrev pub found_number : Result (Option Found) Refusal → ℕ
found_number (Ok (Some f)) = 0
found_number (Ok None) = 0
found_number (Err r) = r.number

-- 1, the record's number and the block's; or zeros
abbrev pub found_words : Result (Option Found) Refusal → List ℕ
found_words (Ok (Some f)) = 1 ∷ f.record ∷ f.block ∷ []
found_words (Ok None) = 0 ∷ 0 ∷ 0 ∷ []
found_words (Err r) = 0 ∷ 0 ∷ 0 ∷ []

-- the number and the words of what was found
abbrev pub Finds : Result (Option Found) Refusal → (number : ℕ) → (words : List ℕ) → Type 0
Finds f number words = (number ≡ found_number f) × (words ≡ found_words f)
