-- The peer's share is taken up.
use mathlib.Core.Path.{ap, ◌∙◌}
use Rattle.queue_lent.specs.Words.{link_in}
use Rattle.queue_lent.proofs.shares.link_of.Goals as goal

pub returns : goal.returns
returns c = c.taken_up.ensures ∙ ap link_in c.share_of.ensures.0
