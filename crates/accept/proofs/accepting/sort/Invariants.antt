use Prim.Native.Nat.{◌-◌, ◌≤◌}
use mathlib.Core.Path.{◌≡◌}
use lib.ListN.{length}
use Rattle.accept.proofs.SortLaws.{Sorting}
use Rattle.accept.proofs.accepting.sort.Given as goal

abbrev pub invariant-loop-f : goal.invariant-loop-f
invariant-loop-f l = Sorting l.s l.places l.at l.n × ((l.n ≤ 512) × (length l.places ≡ 512))

abbrev pub decreases-loop-f : goal.decreases-loop-f
decreases-loop-f l = length l.s - l.at
