use Prim.Native.Nat.{◌-◌}
use lib.ListN.{length}
use Rattle.reason.proofs.FindLaws.{Seeking}
use Rattle.reason.proofs.finding.find.Given as goal

abbrev pub invariant-loop-f : goal.invariant-loop-f
invariant-loop-f l = Seeking l.table l.name l.at

abbrev pub decreases-loop-f : goal.decreases-loop-f
decreases-loop-f l = length l.table - l.at
