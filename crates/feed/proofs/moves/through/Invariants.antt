use Prim.Native.Nat.{◌-◌}
use lib.ListN.{length}
use Rattle.feed.proofs.MoveLaws.{Begun}
use Rattle.feed.proofs.moves.through.Given as goal

abbrev pub invariant-loop-i : goal.invariant-loop-i
invariant-loop-i l = Begun l.initial.st l.run l.st l.i

abbrev pub decreases-loop-i : goal.decreases-loop-i
decreases-loop-i l = length l.run - l.i
