-- The Lengths of the requests passed are summed.
use Prim.Native.Nat.{◌*◌, ◌≤◌}
use mathlib.Core.Path.{◌≡◌}
use lib.ListN.{length, take}
use Rattle.link.specs.Requests.{total}
use Rattle.link.proofs.list.Link.outstanding_bytes.Given as goal

abbrev pub invariant-loop-e : goal.invariant-loop-e
invariant-loop-e l = (length l.e-items ≤ 16) × ((l.sum ≤ 4294967296 * l.e-index) × (l.sum ≡ total (take l.e-index l.e-items)))
