-- The links passed are in order, and their bytes are summed.
use Prim.Native.Nat.{◌*◌, ◌≤◌}
use mathlib.Core.Path.{◌≡◌}
use lib.ListN.{length, drop}
use Rattle.queue.proofs.QueueLaws.{Passed}
use Rattle.queue.proofs.queue.RequestQueue.sound_bytes.Given as goal

abbrev pub invariant-loop-l : goal.invariant-loop-l
invariant-loop-l l = (length l.l-items ≡ 4) × ((l.sum ≤ 2097152 * l.l-index) × Passed l.l-items (drop l.l-index l.l-items) l.sum)
