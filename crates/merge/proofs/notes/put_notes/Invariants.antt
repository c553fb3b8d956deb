-- The loop's invariant: what is left to put into the buffer makes of it what all make of the first.
use Rattle.std.proofs.Common.{length, ◌≤◌, ◌+◌}
use Rattle.merge.specs.Steps.Notes.{noted_all}
use Rattle.merge.proofs.NoteLaws.{ToPut}
use Rattle.merge.proofs.notes.put_notes.Given as goal

abbrev pub invariant-loop-left : goal.invariant-loop-left
invariant-loop-left l = l.at + length (noted_all l.a l.b l.notes) ≤ length l.initial.out → ToPut l.a l.b l.notes l.initial.out l.at l.out l.to l.x l.y l.left

abbrev pub decreases-loop-left : goal.decreases-loop-left
decreases-loop-left l = length l.left
