-- What is said of bytes that are read all at once.
use Rattle.std.specs.Prelude.{ℕ, List, cond, eqb, Ok, Err, Some, None}
use Rattle.xdr.specs.Reading.{Reading, taken, refused}
use Rattle.xdr.specs.Format.{read}
use Rattle.message.specs.Message.{message}
use Rattle.message.specs.declared.edition.Edition.{Edition}
use Rattle.feed.specs.Answer.{Answer}

-- a refusal: with 1 more bytes are waited for
abbrev pub stop : (number place : ℕ) → Answer
stop k p = cond (eqb k 1) (Ok None) (Err (record { number = k; place = p }))

-- what is said of a reading
abbrev pub said : {A : Type 0} → Reading A → Answer
said (taken a n) = Ok (Some n)
said (refused k p) = stop k p

-- what is said of bytes: that of reading a message of an edition from their start
abbrev pub at_once : Edition → List ℕ → Answer
at_once e s = said (read (message e) s)
