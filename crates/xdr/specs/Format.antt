-- The formats of XDR: what reading some bytes by a format gives, how a value is encoded in it, and which values it has.
use Rattle.std.specs.Prelude.{ℕ, ◌+◌, ◌-◌, ◌^◌, ◌<◌, List, [], ◌∷◌, ◌++◌, ◌≡◌, Bool, true, cond, length, take, drop, replicate, leb, eqb}
use Rattle.xdr.specs.Reading.{Reading, taken, refused, shifted, mapped, relocated, tested, and_then, many}
use Rattle.xdr.specs.Pad.{padded, zeros_up_to, all_zero}
use Rattle.xdr.specs.Number.{big_endian, digits, IsBytes}

-- a format of values of A
pub data Format : Type 0 → Type 1 where
  -- no bytes, and nothing said
  nothing : Format (Unit {0})
  -- a number of so many bytes, the highest first
  number : ℕ → Format ℕ
  -- a length, that many bytes, and zero bytes up to a multiple of four
  bytes : Format ℕ → Format (List ℕ)
  -- a count, and that many elements
  array : {A : Type 0} → Format ℕ → Format A → Format (List A)
  -- a value, and then another, whose format and kind may depend on the first
  pair : {A : Type 0} {B : A → Type 0} → Format A → ((a : A) → Format (B a)) → Format ((a : A) × B a)
  -- the values that pass a test, with the number of the refusal where one doesn't, and the position of its fault in the value's bytes
  checked_at : {A : Type 0} → ℕ → (A → Bool) → (fault : A → ℕ) → Format A → Format A
  -- values of another kind that stand for the same
  via : {A B : Type 0} (to : A → B) (from : B → A) → ((a : A) → from (to a) ≡ a) → ((b : B) → to (from b) ≡ b) → Format A → Format B

-- a test whose fault is the whole value: the refusal is at its start
abbrev pub checked : {A : Type 0} → ℕ → (A → Bool) → Format A → Format A
checked k test F = checked_at k test (λ a. 0) F

-- the bytes that pad n bytes
abbrev pub pad_of : ℕ → List ℕ → List ℕ
pad_of n s = take (padded n - n) (drop n s)

-- n bytes and their pad
abbrev pub contents : ℕ → List ℕ → Reading (List ℕ)
contents n s =
    cond (leb (padded n) (length s))
    (cond (all_zero (pad_of n s)) (taken (take n s) (padded n)) (refused 6 (n + zeros_up_to (pad_of n s))))
    (refused 1 0)

-- the place of a refusal of a string or an opaque: its length word, but for a pad byte (6) the byte itself
abbrev pub bytes_place : (number place : ℕ) → ℕ
bytes_place k p = cond (eqb k 6) p 0

-- reading the front of some bytes by a format
unfoldable pub read : {A : Type 0} → Format A → List ℕ → Reading A
read nothing s = taken tt 0
read (number k) s = cond (leb k (length s)) (taken (big_endian k s) k) (refused 1 0)
read (bytes C) s = relocated bytes_place (and_then (read C s) contents s)
read (array C F) s = and_then (read C s) (λ n t. many n (λ u. read F u) t) s
read (pair F G) s = and_then (read F s) (λ a t. mapped (λ b. (a, b)) (read (G a) t)) s
read (checked_at k test fault F) s = tested k test fault (read F s)
read (via to from _ _ F) s = mapped to (read F s)

-- reading at a place of s, with the place after the value, or the refusal's, counted from the start of s
unfoldable pub read_at : {A : Type 0} → Format A → List ℕ → ℕ → Reading A
read_at F s at = shifted at (read F (drop at s))

-- some values, each encoded, one after another
abbrev pub encode_all : {A : Type 0} → (A → List ℕ) → List A → List ℕ
encode_all e [] = []
encode_all e (a ∷ l) = e a ++ encode_all e l

-- the bytes that a value is in a format
unfoldable pub encode : {A : Type 0} → Format A → A → List ℕ
encode nothing u = []
encode (number k) n = digits k n
encode (bytes C) l = encode C (length l) ++ (l ++ replicate (padded (length l) - length l) 0)
encode (array C F) l = encode C (length l) ++ encode_all (λ a. encode F a) l
encode (pair F G) p = encode F p.0 ++ encode (G p.0) p.1
encode (checked_at k test fault F) a = encode F a
encode (via to from _ _ F) b = encode F (from b)

-- each value of a list has P
abbrev pub AllOf : {A : Type 0} → (A → Type 0) → List A → Type 0
AllOf P [] = Unit {0}
AllOf P (a ∷ l) = P a × AllOf P l

-- the values that a format has
unfoldable pub Valid : {A : Type 0} → Format A → A → Type 0
Valid nothing u = Unit {0}
Valid (number k) n = n < 256 ^ k
Valid (bytes C) l = Valid C (length l) × IsBytes l
Valid (array C F) l = Valid C (length l) × AllOf (λ a. Valid F a) l
Valid (pair F G) p = Valid F p.0 × Valid (G p.0) p.1
Valid (checked_at k test fault F) a = Valid F a × (test a ≡ true)
Valid (via to from _ _ F) b = Valid F (from b)
