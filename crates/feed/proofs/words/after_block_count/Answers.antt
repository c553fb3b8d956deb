use mathlib.Core.Path.{sym, ◌∙◌}
use borrow.Author.Tests.{le-leb, lt-leb}
use Rattle.feed.specs.Steps.Next.{after_word}
use Rattle.feed.proofs.words.after_block_count.Goals as goal

pub returns-then-n-gt1024 : goal.returns-then-n-gt1024
unfolding after_word
returns-then-n-gt1024 c = simp (c.stopped.ensures, lt-leb c.args.n 1024 c.if-n-gt1024.true)

pub returns-then-not-may_have : goal.returns-then-not-may_have
unfolding after_word
returns-then-not-may_have c = simp (c.stopped-then-not-may_have.ensures, le-leb c.args.n 1024 c.if-n-gt1024.false, sym c.may_have.ensures ∙ c.if-not-may_have.true)

pub returns : goal.returns
unfolding after_word
returns c = simp (c.at_goal.ensures, c.blocks_goal.ensures, le-leb c.args.n 1024 c.if-n-gt1024.false, sym c.may_have.ensures ∙ c.if-not-may_have.false)
