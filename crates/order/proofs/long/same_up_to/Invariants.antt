-- A place in steps of 64, up to which the two are the same.
use Prim.Native.Nat.{◌-◌, ◌≤◌, ◌%◌}
use mathlib.Core.Path.{◌≡◌}
use Rattle.order.specs.Steps.{SameUpTo}
use Rattle.order.proofs.long.same_up_to.Given as goal

abbrev pub invariant-loop-i : goal.invariant-loop-i
invariant-loop-i l = (l.i % 64 ≡ 0) × (l.i ≤ l.whole) × SameUpTo l.a l.b l.i

abbrev pub decreases-loop-i : goal.decreases-loop-i
decreases-loop-i l = l.whole - l.i
