-- The loop's invariant: what was counted and noted and what is left make up the merged table.
use Prim.Native.Nat.{◌+◌, ◌-◌, ◌≤◌}
use lib.ListN.{length}
use Rattle.table.proofs.PassLaws.{Counted}
use Rattle.merge.specs.Answer.{merged_records}
use Rattle.merge.proofs.NotingLaws.{Noting}
use Rattle.merge.proofs.LoopLaws.{Left, rest}
use Rattle.merge.proofs.merging.note_records.Given as goal

abbrev pub invariant-loop-step : goal.invariant-loop-step
invariant-loop-step l =
    (left : Left l.a l.b l.i l.j)
    × Counted (merged_records l.a l.b) (rest left) l.size.count l.size.bytes
    × ((l.size.count ≤ l.size.bytes) × (l.size.bytes ≤ l.i + l.j))
    × Noting l.a l.b (merged_records l.a l.b) (rest left) l.notes l.size.count l.size.noted

abbrev pub decreases-loop-step : goal.decreases-loop-step
decreases-loop-step l = length l.a + length l.b - (l.i + l.j)
