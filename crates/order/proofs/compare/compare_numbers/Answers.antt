-- What `cmp` answers is how the numbers compare.
use Rattle.order.proofs.OrderLaws.{as_cmp}
use Rattle.order.proofs.compare.compare_numbers.Goals as goal

pub returns : goal.returns
returns c = as_cmp c.args.m c.args.n c.cmp.result c.cmp.ensures
