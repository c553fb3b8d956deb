use Prim.Native.Nat.{◌-◌}
use lib.ListN.{length}
use Rattle.want.proofs.IndexLaws.{Indexing, Adding}
use Rattle.want.proofs.index.build.Given as goal

abbrev pub invariant-loop-j : goal.invariant-loop-j
invariant-loop-j l = Adding l.t l.index l.at l.f l.count l.first l.j

abbrev pub invariant-loop-f : goal.invariant-loop-f
invariant-loop-f l = Indexing l.t l.index l.at

abbrev pub decreases-loop-f : goal.decreases-loop-f
decreases-loop-f l = length l.t - l.at
