-- What a call that fills a lent buffer gives: the number that it returns, the one word of its answer, and the buffer.
use Rattle.std.specs.Prelude.{Ok, Err}
use Rattle.std.specs.declared.result.Result.{Result}
use Rattle.xdr.specs.declared.answer.Refusal.{Refusal}
use Rattle.std.specs.Prelude.{ℕ, List, [], ◌∷◌, ◌≡◌, length}
use Rattle.xdr.specs.Filling.{Outcome, in_room, filling_answer, buffer_after}

-- 0, or the number of the refusal
abbrev pub filling_number : Result ℕ Refusal → ℕ
filling_number (Ok n) = 0
filling_number (Err r) = r.number

-- how many bytes were filled in, or the place
abbrev pub filling_words : Result ℕ Refusal → List ℕ
filling_words (Ok n) = n ∷ []
filling_words (Err r) = r.place ∷ []

-- the number, the word and the buffer, by what there is to fill in and the buffer that was lent
pub record Gives (o : Outcome) (out : List ℕ) (number : ℕ) (words after : List ℕ) : Type 0 where
  pub number_is : number ≡ filling_number (filling_answer (in_room (length out) o))
  pub words_are : words ≡ filling_words (filling_answer (in_room (length out) o))
  pub buffer_is : after ≡ buffer_after (in_room (length out) o) out
