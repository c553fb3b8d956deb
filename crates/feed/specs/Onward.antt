-- Reading, and going on: what the bytes from a place on come to, where a format is read there and something else after it.
use Rattle.std.specs.Prelude.{ℕ, ◌+◌, List, cond, length, drop, leb, Ok, Some, None}
use Rattle.xdr.specs.Reading.{Reading, taken, refused, many}
use Rattle.xdr.specs.Format.{Format, read}
use Rattle.feed.specs.AtOnce.{stop}
use Rattle.feed.specs.Answer.{Answer}

-- what the bytes from a place on come to
abbrev pub Rest : Type 0
Rest = ℕ → List ℕ → Answer

-- nothing more comes: the message ends here
abbrev pub ending : Rest
ending at s = Ok (Some at)

-- after a reading of s, which begins at a place: what comes after its value, or the refusal
abbrev pub onward : {A : Type 0} → Reading A → (A → Rest) → Rest
onward (taken a n) k at s = k a (at + n) (drop n s)
onward (refused n p) k at s = stop n (at + p)

-- a format, and what comes after it
abbrev pub then_read : {A : Type 0} → Format A → Rest → Rest
then_read F k at s = onward (read F s) (λ a. k) at s

-- so many of a format, and what comes after them
abbrev pub many_read : {A : Type 0} → ℕ → Format A → Rest → Rest
many_read n F k at s = onward (many n (λ u. read F u) s) (λ a. k) at s

-- so many bytes of any kind, and what comes after them
abbrev pub skipping : ℕ → Rest → Rest
skipping n k at s = cond (leb n (length s)) (k (at + n) (drop n s)) (Ok None)
