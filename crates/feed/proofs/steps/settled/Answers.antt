use Prim.Native.Nat.{◌+◌}
use borrow.Author.Tests.{eq-eqb, ne_eqb}
use Rattle.feed.specs.Steps.Next.{settled}
use Rattle.feed.proofs.steps.settled.Goals as goal

pub returns-then-state-eq0 : goal.returns-then-state-eq0
unfolding settled
returns-then-state-eq0 c = simp (c.after_string.ensures, eq-eqb (c.args.state.todo + c.args.state.pad) 0 c.if-state-eq0.true)

pub returns : goal.returns
unfolding settled
returns c = simp (ne_eqb (c.args.state.todo + c.args.state.pad) 0 c.if-state-eq0.false)
