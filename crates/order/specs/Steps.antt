-- What only the steps of the code and their proofs need.
use Rattle.std.specs.Prelude.{ℕ, ◌≤◌, List, ◌≡◌, ◌⊎◌, length, drop}
use Rattle.order.specs.Order.{compare_lists}

-- a place within two runs of bytes, up to which they are the same: so the rest decides
abbrev pub SameUpTo : (a b : List ℕ) → ℕ → Type 0
SameUpTo a b n = (n ≤ length a) × (n ≤ length b) × (compare_lists a b ≡ compare_lists (drop n a) (drop n b))

-- the lower of two lengths
pub record Shorter (m n r : ℕ) : Type 0 where
  pub first : r ≤ m
  pub second : r ≤ n
  pub one : (r ≡ m) ⊎ (r ≡ n)
