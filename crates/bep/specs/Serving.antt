-- What a ruling on a Request gives and leaves: the number that the call returns, the words of its answer, and the lent buffer.
use Rattle.std.specs.Prelude.{Ok, Err}
use Rattle.std.specs.declared.result.Result.{Result}
use Rattle.xdr.specs.declared.answer.Refusal.{Refusal}
use Rattle.std.specs.Prelude.{ℕ, List, [], ◌∷◌, ◌≡◌, length}
use Rattle.xdr.specs.Filling.{in_room, buffer_after}
use Rattle.serve.specs.Ruling.{Ruling, serving_answer, filled_by}
use Rattle.serve.specs.declared.ruling.Serving.{Serving}
use Rattle.serve.specs.declared.ruling.Serving.TheVariants.{Served, Replied}

-- 0, or the number of the refusal
abbrev pub serving_number : Result Serving Refusal → ℕ
serving_number (Ok s) = 0
serving_number (Err r) = r.number

-- 1, the start and the length of the name, the offset and the Length; 0 and how many bytes of a reply were filled in; or the place
abbrev pub serving_words : Result Serving Refusal → List ℕ
serving_words (Ok (Served name offset size)) = 1 ∷ name.start ∷ name.length ∷ offset ∷ size ∷ []
serving_words (Ok (Replied n)) = 0 ∷ n ∷ 0 ∷ 0 ∷ 0 ∷ []
serving_words (Err r) = r.place ∷ 0 ∷ 0 ∷ 0 ∷ 0 ∷ []

-- a ruling with the buffer `before` lent, with these results
pub record RuledSo (u : Ruling) (before : List ℕ) (number : ℕ) (words after : List ℕ) : Type 0 where
  pub number_is : number ≡ serving_number (serving_answer u (length before))
  pub words_are : words ≡ serving_words (serving_answer u (length before))
  pub buffer_is : after ≡ buffer_after (in_room (length before) (filled_by u)) before
