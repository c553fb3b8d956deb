-- The links passed are in order, and their bytes are summed.
use Prim.Native.Nat.{◌*◌, ◌≤◌}
use lib.ListN.{drop}
use Rattle.queue.specs.Queue.{peers}
use Rattle.queue.proofs.QueueLaws.{Passed}
use Rattle.queue_lent.specs.Words.{links_in}
use Rattle.queue_lent.proofs.shares.sound_bytes.Given as goal

abbrev pub invariant-loop-i : goal.invariant-loop-i
invariant-loop-i l = (l.i ≤ 4) × ((l.sum ≤ 2097152 * l.i) × Passed (links_in peers l.words) (drop l.i (links_in peers l.words)) l.sum)
