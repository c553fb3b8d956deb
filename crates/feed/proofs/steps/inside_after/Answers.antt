use Rattle.std.proofs.Common.{rules}
use borrow.Author.Tests.{ne_eqb}
use native.Mathlib.Omega.{arith}
use Rattle.feed.specs.Steps.Next.{inside_after}
use Rattle.feed.proofs.CodeLaws.{limit_most}
use Rattle.feed.proofs.steps.inside_after.Goals as goal

pub settled-requires : goal.settled-requires
settled-requires c = (search rules, omega (arith, c.requires.1.limited, limit_most c.args.string), omega (arith, c.requires.1.within, c.requires.1.limited, limit_most c.args.string))

pub returns : goal.returns
unfolding inside_after
returns c = simp (c.settled.ensures, c.scan_after.ensures, c.rule_of.ensures, ne_eqb c.args.state.todo 0 c.if-todo-eq0.false)
