-- What only the steps of the code and their proofs need.
use Rattle.std.specs.Prelude.{ℕ, zero, suc, ◌+◌, ◌*◌, ◌≤◌, List, [], ◌∷◌, Bool, true, false, ◌&&◌, ◌≡◌, get_or, length, drop}
use Rattle.xdr.specs.Text.{is_within, sound_from}

-- the number that the first four bytes are, the lowest byte first
abbrev pub little_endian : List ℕ → ℕ
little_endian s = get_or s 3 0 * 16777216 + get_or s 2 0 * 65536 + get_or s 1 0 * 256 + get_or s 0 0

-- so many followers come first, the first of a range and the others 80 to BF
abbrev pub followed_by : (n low high : ℕ) → List ℕ → Bool
followed_by zero low high l = true
followed_by (suc n) low high [] = false
followed_by (suc n) low high (b ∷ l) = is_within low high b && followed_by n 128 191 l

-- the position of the first sequence that breaks the text rule, from a place between two sequences on
abbrev pub sound_after : List ℕ → ℕ → ℕ
sound_after s at = sound_from (drop at s) 0 128 191 at at

-- so many bytes at a place are whole sequences
pub record Whole (s : List ℕ) (at n : ℕ) : Type 0 where
  pub within : at + n ≤ length s
  pub on : sound_after s at ≡ sound_after s (at + n)

-- so many bytes to go on by, whole sequences; 0 where the first of them breaks the rule
pub record Advance (s : List ℕ) (at n : ℕ) : Type 0 where
  pub broken : n ≡ 0 → sound_after s at ≡ at
  pub whole : (n ≡ 0 → ⊥) → Whole s at n
