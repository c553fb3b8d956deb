-- The byte at the place of a refusal with 6 or 7 is at fault.
use Rattle.std.specs.Prelude.{ℕ, ◌+◌, ◌-◌, ◌≤◌, ◌<◌, List, ◌≡◌, get_or, take, drop}
use Rattle.xdr.specs.Number.{big_endian}
use Rattle.xdr.specs.Pad.{padded}
use Rattle.xdr.specs.Utf8.{IsUtf8}

-- the length that a string or an opaque at the front of some bytes says
abbrev pub length_said : List ℕ → ℕ
length_said s = big_endian 4 s

-- 6: the place is in the pad, the byte there isn't zero, and every pad byte before it is
pub record BadPad (s : List ℕ) (p : ℕ) : Type 0 where
  pub behind : 4 + length_said s ≤ p
  pub inside : p < 4 + padded (length_said s)
  pub bad : get_or s p 0 ≡ 0 → ⊥
  pub before : (i : ℕ) → 4 + length_said s ≤ i → i < p → get_or s i 0 ≡ 0

-- 7: the place is in the contents, those before it are UTF-8, and with the byte there and any number of those that follow in the string they aren't
pub record BadText (s : List ℕ) (p : ℕ) : Type 0 where
  pub behind : 4 ≤ p
  pub inside : p < 4 + length_said s
  pub before : IsUtf8 (take (p - 4) (drop 4 s))
  pub broken : (k : ℕ) → p < k → k ≤ 4 + length_said s → IsUtf8 (take (k - 4) (drop 4 s)) → ⊥
