-- What a call does that fills a lent buffer: the one promise of every such call.
use Rattle.std.specs.Prelude.{ℕ, List, ◌≡◌, cond, length, leb, Ok, Err}
use Rattle.std.specs.declared.result.Result.{Result}
use Rattle.xdr.specs.Buffer.{filled}
use Rattle.xdr.specs.declared.answer.Refusal.{Refusal}

-- it has these bytes to fill in, or refuses with a number and a place
pub data Outcome : Type 0 where
  gives : List ℕ → Outcome
  refuses : (number place : ℕ) → Outcome

-- the room comes last: bytes that are longer than the buffer are refused with 14
abbrev pub in_room : (room : ℕ) → Outcome → Outcome
in_room room (gives l) = cond (leb (length l) room) (gives l) (refuses 14 0)
in_room room (refuses k p) = refuses k p

-- what it answers: how many bytes it filled in, or the refusal
abbrev pub filling_answer : Outcome → Result ℕ Refusal
filling_answer (gives l) = Ok (length l)
filling_answer (refuses k p) = Err (record { number = k; place = p })

-- what the buffer then holds
abbrev pub buffer_after : Outcome → List ℕ → List ℕ
buffer_after (gives l) out = filled out l
buffer_after (refuses k p) out = out

-- the promise: answer and buffer, by what there is to fill in and the buffer that was lent
pub record Fills (o : Outcome) (out : List ℕ) (answer : Result ℕ Refusal) (after : List ℕ) : Type 0 where
  pub answered : answer ≡ filling_answer (in_room (length out) o)
  pub buffer : after ≡ buffer_after (in_room (length out) o) out
