-- The Lengths of the requests passed are summed.
use Prim.Native.Nat.{◌*◌, ◌≤◌}
use mathlib.Core.Path.{◌≡◌}
use lib.ListN.{length, take}
use Rattle.link.specs.Requests.{total}
use Rattle.link.specs.OneLink.{outstanding}
use Rattle.queue_lent.specs.Words.{link_in}
use Rattle.queue_lent.proofs.totals.outstanding_in.Given as goal

abbrev pub invariant-loop-i : goal.invariant-loop-i
invariant-loop-i l =
    (length l.words ≡ 35) × ((l.i ≤ l.count) × ((l.count ≡ length (outstanding (link_in l.words))) × ((l.bytes ≤ 4294967296 * l.i) × (l.bytes ≡ total (take l.i (outstanding (link_in l.words)))))))
