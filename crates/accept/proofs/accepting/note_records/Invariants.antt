use Prim.Native.Nat.{◌+◌, ◌-◌}
use lib.ListN.{length}
use Rattle.table.proofs.PassLaws.{Counted}
use Rattle.merge.proofs.NotingLaws.{Noting}
use Rattle.accept.specs.Steps.Sorted.{result_of}
use Rattle.accept.proofs.LoopLaws.{Left, rest}
use Rattle.accept.proofs.accepting.note_records.Given as goal

abbrev pub invariant-loop-step : goal.invariant-loop-step
invariant-loop-step l =
    (left : Left l.s l.places l.old l.i l.j)
    × Counted (result_of l.update l.s l.old) (rest left) l.size.count l.size.bytes
    × Noting l.s l.old (result_of l.update l.s l.old) (rest left) l.notes l.size.count l.size.noted

abbrev pub decreases-loop-step : goal.decreases-loop-step
decreases-loop-step l = length l.places + length l.old - (l.i + l.j)
