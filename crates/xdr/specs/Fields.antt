-- The fields that messages are made of.
use Rattle.std.specs.Prelude.{ℕ, ◌+◌, List, leb}
use Rattle.xdr.specs.Format.{Format, number, bytes, checked_at, checked}
use Rattle.xdr.specs.Text.{sound_up_to, is_text}

-- a number of 32 bits
abbrev pub word : Format ℕ
word = number 4

-- a number of 64 bits
abbrev pub hyper : Format ℕ
hyper = number 8

-- a length or a count, up to a limit (5)
abbrev pub up_to : ℕ → Format ℕ
up_to limit = checked 5 (λ n. leb n limit) word

-- an opaque: up to so many bytes (5)
abbrev pub opaque : ℕ → Format (List ℕ)
opaque limit = bytes (up_to limit)

-- where the first sequence that breaks the text rule begins in a string, behind its length word
abbrev pub text_fault : List ℕ → ℕ
text_fault l = 4 + sound_up_to l

-- a string: an opaque that keeps the text rule (7)
abbrev pub text : ℕ → Format (List ℕ)
text limit = checked_at 7 is_text text_fault (opaque limit)
