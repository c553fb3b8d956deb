use Rattle.std.proofs.Common.{rules}
use borrow.Author.Tests.{eq-eqb}
use native.Mathlib.Omega.{arith}
use Rattle.feed.specs.Steps.Next.{inside_after}
use Rattle.feed.proofs.CodeLaws.{limit_most}
use Rattle.feed.proofs.steps.pad_after.Goals as goal

pub settled-requires : goal.settled-requires
settled-requires c = (search rules, omega (arith, c.requires.1.limited, limit_most c.args.string), omega (arith, c.requires.1.within, c.requires.1.limited, limit_most c.args.string))

pub returns : goal.returns
unfolding inside_after
returns c = simp (c.settled.ensures, c.zeros_after.ensures, c.bad_after-bad.ensures, eq-eqb c.args.state.todo 0 c.requires.2)
