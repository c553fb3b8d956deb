-- What the readers answer, by what was read.
use Rattle.std.specs.Prelude.{ℕ, List, length, Ok, Err}
use Rattle.std.specs.declared.result.Result.{Result}
use Rattle.xdr.specs.Reading.{Reading, taken, refused}
use Rattle.xdr.specs.declared.answer.Refusal.{Refusal}

-- a refusal at place 0
abbrev pub at_start : (number : ℕ) → Refusal
at_start k = record { number = k; place = 0 }

-- the refusal of an answer: number 0 where there is none
abbrev pub refusal_of : {B : Type 0} → Result B Refusal → Refusal
refusal_of (Ok b) = at_start 0
refusal_of (Err r) = r

-- what a reading answers: what the function makes of its value and of the place after it, or the refusal
abbrev pub answer : {A B : Type 0} → (A → ℕ → B) → Reading A → Result B Refusal
answer f (taken a next) = Ok (f a next)
answer f (refused k p) = Err (record { number = k; place = p })

-- a word: its value and the place after it
abbrev pub word_answer : Reading ℕ → Result (ℕ × ℕ) Refusal
word_answer r = answer (λ n next. (n, next)) r

-- a number of 64 bits, likewise
abbrev pub hyper_answer : Reading ℕ → Result (ℕ × ℕ) Refusal
hyper_answer r = answer (λ n next. (n, next)) r

-- a string or an opaque: the length of its contents, which begin 4 bytes after its own place, and the place after its padding
abbrev pub bytes_answer : Reading (List ℕ) → Result (ℕ × ℕ) Refusal
bytes_answer r = answer (λ l next. (length l, next)) r
