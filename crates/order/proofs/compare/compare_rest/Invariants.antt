-- What is left of the two compares as they do.
use mathlib.Core.Path.{◌≡◌}
use lib.ListN.{length, drop}
use Rattle.order.specs.Order.{compare_lists}
use Rattle.order.proofs.compare.compare_rest.Given as goal

abbrev pub invariant-loop-x : goal.invariant-loop-x
invariant-loop-x l = compare_lists l.a l.b ≡ compare_lists (drop (length l.yielded) l.a) (drop (length l.yielded) l.b)
