-- Eight bytes that are there are read.
use Rattle.order.proofs.HashLaws.{eight_taken, eight_refused}
use Rattle.order.proofs.hash.eight_at.Goals as goal

pub returns-in_default : goal.returns-in_default
returns-in_default c = eight_refused c.args.s.now c.args.at c.read_hyper.ensures c.requires c.in_default.is

pub returns : goal.returns
returns c = eight_taken c.args.s.now c.args.at c.read_hyper.ensures c.in-Ok.is
