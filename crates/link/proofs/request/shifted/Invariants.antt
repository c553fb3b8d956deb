-- The requests passed stand first.
use mathlib.Core.Path.{◌≡◌}
use lib.ListN.{length, replicate}
use lib.Seq.{paste}
use Rattle.link.specs.Requests.{blank}
use Rattle.link.proofs.request.shifted.Given as goal

abbrev pub invariant-loop-i : goal.invariant-loop-i
invariant-loop-i l = (length l.e-items ≡ 15) × (l.out ≡ paste (replicate 16 blank) 0 l.e-items l.i)
