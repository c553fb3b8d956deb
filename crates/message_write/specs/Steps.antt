-- The steps of a writer: a body is checked as it reads behind its header, and then the Message ID and the room.
use Rattle.std.specs.Prelude.{ℕ, List, ◌≡◌, cond, length, leb, Ok, Err}
use Rattle.std.specs.declared.result.Result.{Result}
use Rattle.xdr.specs.Reading.{Reading, shifted}
use Rattle.xdr.specs.Format.{Format, read}
use Rattle.xdr.specs.Buffer.{filled}
use Rattle.xdr.specs.Filling.{Outcome, refuses, filling_answer}
use Rattle.xdr.specs.Answers.{answer}
use Rattle.xdr.specs.declared.answer.Refusal.{Refusal}
use Rattle.message.specs.Limits.{id_limit}
use Rattle.message.specs.Message.{Repository}
use Rattle.message.specs.declared.edition.Edition.{Edition}
use Rattle.message.specs.declared.edition.Edition.TheVariants as E
use Rattle.message_write.specs.Writing.{repository_bytes, message_bytes, as_read}

-- the Repository that some bytes are: in the old edition none, whatever they are
abbrev pub repository_of : (e : Edition) → List ℕ → Repository e
repository_of E.Old l = tt
repository_of E.New l = l

-- how they would be written
abbrev pub given_bytes : (e : Edition) → List ℕ → List ℕ
given_bytes e l = repository_bytes e (repository_of e l)

-- bytes that were put at the start of a buffer, and how many they are
abbrev pub Stored : (l out : List ℕ) → (count : ℕ) → (after : List ℕ) → Type 0
Stored l out count after = (count ≡ length l) × (after ≡ filled out l)

-- writing by the format of the body, read behind the header
unfoldable pub writing_body : {A : Type 0} → Format A → (id type : ℕ) → List ℕ → Outcome
writing_body F id type b = cond (leb id id_limit) (as_read (message_bytes id type b) (shifted 4 (read F b))) (refuses 5 0)

-- what a check answers: how many bytes the message takes, or its refusal
abbrev pub check_answer : {A : Type 0} → Reading A → Result ℕ Refusal
check_answer r = answer (λ v n. n) r

-- what the check of a body's bytes answers
unfoldable pub body_check : {A : Type 0} → Format A → List ℕ → Result ℕ Refusal
body_check F b = check_answer (shifted 4 (read F b))

-- a check's answer, in so much room
abbrev pub size_in : (room : ℕ) → Result ℕ Refusal → Result ℕ Refusal
size_in room (Ok n) = cond (leb n room) (Ok n) (filling_answer (refuses 14 0))
size_in room (Err r) = Err r

-- the same behind the test of the Message ID
abbrev pub admitted_answer : (id room : ℕ) → Result ℕ Refusal → Result ℕ Refusal
admitted_answer id room checked = cond (leb id id_limit) (size_in room checked) (filling_answer (refuses 5 0))
