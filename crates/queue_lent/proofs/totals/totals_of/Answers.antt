-- Of the peer's share.
use mathlib.Core.Path.{subst}
use Rattle.queue_lent.specs.Words.{link_in}
use Rattle.queue_lent.specs.Steps.{LinkTotals}
use Rattle.queue_lent.proofs.totals.totals_of.Goals as goal

pub returns : goal.returns
returns c = subst (λ s. LinkTotals (link_in s) c.outstanding_in.result) c.share_of.ensures.0 c.outstanding_in.ensures
