-- The place is one of 0, 8, 16, 24 and 32, and `same` tells whether the bytes before it are the same.
use Prim.Native.Nat.{◌-◌, ◌≤◌, ◌%◌}
use mathlib.Core.Path.{◌≡◌}
use Rattle.order.proofs.HashLaws.{Agree}
use Rattle.order.proofs.hash.same_hash.Given as goal

abbrev pub invariant-loop-i : goal.invariant-loop-i
invariant-loop-i l = (l.i % 8 ≡ 0) × (l.i ≤ 32) × Agree l.a l.b l.i l.same

abbrev pub decreases-loop-i : goal.decreases-loop-i
decreases-loop-i l = 32 - l.i
