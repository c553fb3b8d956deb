-- The text rule, which is UTF-8 (RFC 3629): a string is a run of sequences, each a lead byte and its followers.
use Rattle.std.specs.Prelude.{ℕ, zero, suc, List, [], ◌∷◌, Bool, cond, ◌&&◌, length, leb, eqb}

-- how many followers a lead byte has, UTF8-1 to UTF8-4: 00 to 7F none, C2 to DF one, E0 to EF two, F0 to F4 three; 4 for a byte that can't lead
abbrev pub followers : ℕ → ℕ
followers b = cond (leb b 127) 0 (cond (leb b 193) 4 (cond (leb b 223) 1 (cond (leb b 239) 2 (cond (leb b 244) 3 4))))

-- the first follower is at least this: A0 after E0, 90 after F0, 80 after others
abbrev pub lowest : ℕ → ℕ
lowest b = cond (eqb b 224) 160 (cond (eqb b 240) 144 128)

-- and at most this: 9F after ED, 8F after F4, BF after others
abbrev pub highest : ℕ → ℕ
highest b = cond (eqb b 237) 159 (cond (eqb b 244) 143 191)

-- a byte of a range
abbrev pub is_within : (low high : ℕ) → ℕ → Bool
is_within low high b = leb low b && leb b high

-- the position of the first sequence that breaks the rule, or else of the end, in bytes that begin at position `at`,
-- where `left` followers are missing of the sequence at position `start`, the next of a range and the others 80 to BF
abbrev pub sound_from : List ℕ → (left low high start at : ℕ) → ℕ
sound_from [] zero low high start at = at
sound_from [] (suc left) low high start at = start
sound_from (b ∷ l) zero low high start at = cond (leb (followers b) 3) (sound_from l (followers b) (lowest b) (highest b) at (suc at)) at
sound_from (b ∷ l) (suc left) low high start at = cond (is_within low high b) (sound_from l left 128 191 start (suc at)) start

-- the position of the first sequence that breaks the rule, or the number of bytes where none does
unfoldable pub sound_up_to : List ℕ → ℕ
sound_up_to l = sound_from l 0 128 191 0 0

-- the text rule holds of all bytes
abbrev pub is_text : List ℕ → Bool
is_text l = eqb (sound_up_to l) (length l)
