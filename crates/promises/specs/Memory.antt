-- Memory, and the regions that tables and buffers take of it.
use Rattle.std.specs.Prelude.{ℕ, zero, suc, ◌+◌, List, [], ◌∷◌, Bool, ◌||◌, cond, leb, eqb}

-- a byte at each address
abbrev pub Memory : Type 0
Memory = ℕ → ℕ

-- so many addresses from one on
pub record Region : Type 0 where
  pub at : ℕ
  pub size : ℕ

-- so many bytes from an address on
abbrev pub bytes_from : Memory → (at count : ℕ) → List ℕ
bytes_from m at zero = []
bytes_from m at (suc n) = m at ∷ bytes_from m (suc at) n

-- the bytes of a region
abbrev pub bytes_in : Memory → Region → List ℕ
bytes_in m r = bytes_from m r.at r.size

-- one byte written
abbrev pub stored : Memory → (at byte : ℕ) → Memory
stored m at b k = cond (eqb k at) b (m k)

-- bytes written from an address on
abbrev pub written : Memory → (at : ℕ) → List ℕ → Memory
written m at [] = m
written m at (b ∷ l) = written (stored m at b) (suc at) l

-- no address lies in both
abbrev pub is_apart : Region → Region → Bool
is_apart r s = (eqb r.size 0 || eqb s.size 0) || (leb (r.at + r.size) s.at || leb (s.at + s.size) r.at)
