use borrow.Author.Tests.{eq-eqb, ne_eqb}
use Rattle.feed.specs.Steps.Next.{gap_after}
use Rattle.feed.proofs.steps.gap_after.Goals as goal

pub returns-then-n-k : goal.returns-then-n-k
unfolding gap_after
returns-then-n-k c = simp (c.at_goal.ensures, c.behind_gap.ensures, eq-eqb c.args.n c.args.k c.if-n-k.true)

pub returns : goal.returns
unfolding gap_after
returns c = simp (c.at_goal-2.ensures, ne_eqb c.args.n c.args.k c.if-n-k.false)
