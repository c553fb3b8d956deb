-- A message that is fed run by run, its state lent as 16 words, and what the calls on it give.
use Rattle.std.specs.Prelude.{Ok, Err, Some, None}
use Rattle.std.specs.declared.result.Result.{Result}
use Rattle.std.specs.declared.option.Option.{Option}
use Rattle.xdr.specs.declared.answer.Refusal.{Refusal}
use Rattle.std.specs.Prelude.{ℕ, List, [], ◌∷◌, ◌≡◌}
use Rattle.feed.specs.Missing.{missing_in}
use Rattle.feed_lent.specs.Lent.{feed_of, FedLent}
use Rattle.feed.specs.declared.state.Header.{Header}
use Rattle.feed_lent.specs.declared.lent.Said.{Said}

-- the number that a run returns: 1 while more bytes are waited for, 0 where the message has ended
abbrev pub said_number : Result (Option ℕ) Refusal → ℕ
said_number (Ok None) = 1
said_number (Ok (Some end)) = 0
said_number (Err r) = r.number

-- how many bytes are surely still missing, the length of the message or the place; and how many bytes of the run were taken
abbrev pub said_words : (missing taken : ℕ) → Result (Option ℕ) Refusal → List ℕ
said_words missing taken (Ok None) = missing ∷ taken ∷ []
said_words missing taken (Ok (Some end)) = end ∷ taken ∷ []
said_words missing taken (Err r) = r.place ∷ taken ∷ []

-- a run fed to the state that the words `ws` are, with these results
pub record Feeds (ws run : List ℕ) (number : ℕ) (words after : List ℕ) : Type 0 where
  pub said : Said
  pub fed : FedLent ws run said after
  pub number_is : number ≡ said_number said.answer
  pub words_are : words ≡ said_words (missing_in (feed_of after).cursor) said.taken said.answer

-- the number that a header returns: 0 once its four bytes have come, else 1
abbrev pub header_number : Option Header → ℕ
header_number (Some h) = 0
header_number None = 1

-- its type and its ID, or zeros
abbrev pub header_words : Option Header → List ℕ
header_words (Some h) = h.kind ∷ h.id ∷ []
header_words None = 0 ∷ 0 ∷ []
