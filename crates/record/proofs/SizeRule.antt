-- The test of a Length.
use Rattle.std.proofs.Common.{◌≡◌, ℕ, ◌≤◌, true, arith, le-leb}
use Rattle.record.specs.Limits.{size_limit}
use Rattle.record.specs.Block.{is_size}

pub size_fits : (n : ℕ) → (n ≡ 0 → ⊥) → n ≤ size_limit → is_size n ≡ true
size_fits n h k = simp (le-leb 1 n (omega arith), le-leb n size_limit k)
