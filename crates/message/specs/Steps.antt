-- A step of reading a message: its Repository.
use Rattle.std.specs.Prelude.{ℕ}
use Rattle.std.specs.declared.result.Result.{Result}
use Rattle.xdr.specs.Reading.{Reading}
use Rattle.xdr.specs.Answers.{answer}
use Rattle.xdr.specs.declared.answer.Refusal.{Refusal}
use Rattle.message.specs.Message.{Repository}
use Rattle.message.specs.Answers.{repository_length}
use Rattle.message.specs.declared.edition.Edition.{Edition}

-- the length of its contents and the place after it, or the refusal
abbrev pub repository_answer : (e : Edition) → Reading (Repository e) → Result (ℕ × ℕ) Refusal
repository_answer e r = answer (λ v next. (repository_length e v, next)) r
