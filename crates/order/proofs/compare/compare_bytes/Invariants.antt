-- What is left of the two compares as they do.
use Prim.Native.Nat.{◌-◌, ◌≤◌}
use mathlib.Core.Path.{◌≡◌}
use lib.ListN.{length, drop}
use Rattle.order.specs.Order.{compare_lists}
use Rattle.order.proofs.compare.compare_bytes.Given as goal

abbrev pub invariant-loop-x : goal.invariant-loop-x
invariant-loop-x l = (l.i ≤ length l.a) × (l.i ≤ length l.b) × (compare_lists l.a l.b ≡ compare_lists (drop l.i l.a) (drop l.i l.b))

abbrev pub decreases-loop-x : goal.decreases-loop-x
decreases-loop-x l = length l.a - l.i
