-- What a reason gives: the number that the call returns, and the words of its answer.
use Rattle.std.specs.Prelude.{ℕ, List, [], ◌∷◌, ◌≡◌, Ok, Err}
use Rattle.std.specs.declared.result.Result.{Result}
use Rattle.xdr.specs.declared.answer.Refusal.{Refusal}
use Rattle.reason.specs.declared.reasons.Reason.{Reason}
use Rattle.reason.specs.declared.reasons.Reason.TheVariants.{NoSuchName, Deleted, Invalid, NoSuchBlock, Held, Wanted}

-- 0, or 15
abbrev pub reason_number : Result Reason Refusal → ℕ
reason_number (Ok NoSuchName) = 0
reason_number (Ok Deleted) = 0
reason_number (Ok Invalid) = 0
reason_number (Ok NoSuchBlock) = 0
reason_number (Ok (Held n j)) = 0
reason_number (Ok (Wanted peer)) = 0
reason_number (Err r) = r.number

-- the reason, in the order of the request, and for `held` the record's number and the block's, for `wanted` the peer; or zeros
abbrev pub reason_words : Result Reason Refusal → List ℕ
reason_words (Ok NoSuchName) = 1 ∷ 0 ∷ 0 ∷ []
reason_words (Ok Deleted) = 2 ∷ 0 ∷ 0 ∷ []
reason_words (Ok Invalid) = 3 ∷ 0 ∷ 0 ∷ []
reason_words (Ok NoSuchBlock) = 4 ∷ 0 ∷ 0 ∷ []
reason_words (Ok (Held n j)) = 5 ∷ n ∷ j ∷ []
reason_words (Ok (Wanted peer)) = 6 ∷ peer ∷ 0 ∷ []
reason_words (Err r) = 0 ∷ 0 ∷ 0 ∷ []

-- the number and the words of a reason
abbrev pub Reasons : Result Reason Refusal → (number : ℕ) → (words : List ℕ) → Type 0
Reasons why number words = (number ≡ reason_number why) × (words ≡ reason_words why)
