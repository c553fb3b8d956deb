use Prim.Native.Nat.{◌*◌, ◌≤◌}
use mathlib.Core.Path.{◌≡◌}
use lib.ListN.{length}
use lib.Seq.{paste}
use Rattle.queue_lent.specs.Words.{pairs}
use Rattle.queue_lent.proofs.words.put_entries.Given as goal

abbrev pub invariant-loop-i : goal.invariant-loop-i
invariant-loop-i l =
    (l.i ≤ 16) × ((length l.initial.words ≡ 35) × ((length l.words ≡ 35) × ((length l.entries ≡ 16) × (l.words ≡ paste l.initial.words 3 (pairs l.entries) (2 * l.i)))))
