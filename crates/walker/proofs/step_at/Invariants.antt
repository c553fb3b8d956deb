use Prim.Native.Nat.{◌-◌}
use Rattle.walker.proofs.WalkLaws.{Come}
use Rattle.walker.proofs.step_at.Given as goal

abbrev pub invariant-loop-place : goal.invariant-loop-place
invariant-loop-place l = Come l.table l.at l.place

abbrev pub decreases-loop-place : goal.decreases-loop-place
decreases-loop-place l = l.at - l.place
