-- The requests from i on are in order, and their Lengths are summed.
use Prim.Native.Nat.{◌+◌, ◌*◌, ◌≤◌}
use mathlib.Core.Path.{◌≡◌}
use lib.ListN.{length}
use lib.Seq.{slice}
use Rattle.link.proofs.RequestLaws.{Passed}
use Rattle.link.proofs.list.Link.orderly_bytes.Given as goal

abbrev pub invariant-loop-i : goal.invariant-loop-i
invariant-loop-i l =
    (l.self.count ≤ 16) × ((length l.self.entries ≡ 16) × ((l.sum + 131072 * l.i ≤ 2097152) × Passed (slice l.i l.self.count l.self.entries) l.self.next l.next l.sum))
