-- Whether all so far are alike.
use lib.ListN.{length}
use Rattle.order.proofs.SameLaws.{Alike}
use Rattle.order.proofs.long.same_bytes.Given as goal

abbrev pub invariant-loop-x : goal.invariant-loop-x
invariant-loop-x l = Alike l.a l.b (length l.yielded) l.same
