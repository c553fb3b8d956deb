use Prim.Native.Nat.{◌-◌}
use lib.ListN.{length}
use Rattle.serve.proofs.RulingLaws.{Looking}
use Rattle.serve.proofs.ruling.lists.Given as goal

abbrev pub invariant-loop-f : goal.invariant-loop-f
invariant-loop-f l = Looking l.table l.name l.at

abbrev pub decreases-loop-f : goal.decreases-loop-f
decreases-loop-f l = length l.table - l.at
