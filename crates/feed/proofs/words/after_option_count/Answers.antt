use borrow.Author.Tests.{le-leb, lt-leb}
use Rattle.feed.specs.Steps.Next.{after_word}
use Rattle.feed.proofs.words.after_option_count.Goals as goal

pub returns-then-n-le64 : goal.returns-then-n-le64
unfolding after_word
returns-then-n-le64 c = simp (c.at_goal.ensures, c.options_goal.ensures, le-leb c.args.n 64 c.if-n-le64.true)

pub returns-else-n-le64 : goal.returns-else-n-le64
unfolding after_word
returns-else-n-le64 c = simp (c.stopped.ensures, lt-leb c.args.n 64 c.if-n-le64.false)
