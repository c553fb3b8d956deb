-- By the totals of each link.
use Rattle.queue_lent.proofs.TotalLaws.{totals_told}
use Rattle.queue_lent.proofs.totals.totals_in.Goals as goal

pub returns : goal.returns
returns c = totals_told c.args.words.now c.totals_of-a.ensures c.totals_of-b.ensures c.totals_of-c.ensures c.totals_of-d.ensures
