use Prim.Native.Nat.{◌+◌, ◌*◌, ◌≤◌}
use mathlib.Core.Path.{◌≡◌}
use lib.ListN.{length}
use lib.Seq.{slice}
use Rattle.link.proofs.RequestLaws.{Passed}
use Rattle.queue_lent.specs.Words.{link_in}
use Rattle.queue_lent.proofs.words.tally.Given as goal

abbrev pub invariant-loop-i : goal.invariant-loop-i
invariant-loop-i l =
    (l.i ≤ (link_in l.words).count) × (((link_in l.words).count ≤ 16) × ((length l.words ≡ 35)
    × ((l.sum + 131072 * l.i ≤ 2097152) × Passed (slice l.i (link_in l.words).count (link_in l.words).entries) (link_in l.words).next l.next l.sum)))
