-- The bytes before the place are copied, and the rest is as it was.
use Prim.Native.Nat.{◌-◌, ◌≤◌}
use mathlib.Core.Path.{◌≡◌}
use lib.ListN.{length, take}
use Rattle.xdr.specs.Buffer.{filled}
use Rattle.xdr.proofs.put.copy.Given as goal

abbrev pub invariant-loop-at : goal.invariant-loop-at
invariant-loop-at l = (l.at ≤ length l.src) × (l.out ≡ filled l.fn.out (take l.at l.src))

abbrev pub decreases-loop-at : goal.decreases-loop-at
decreases-loop-at l = length l.src - l.at
