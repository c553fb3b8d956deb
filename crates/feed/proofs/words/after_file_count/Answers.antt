use borrow.Author.Tests.{le-leb, lt-leb}
use Rattle.feed.specs.Steps.Next.{after_word}
use Rattle.feed.proofs.words.after_file_count.Goals as goal

pub returns-then-n-le512 : goal.returns-then-n-le512
unfolding after_word
returns-then-n-le512 c = simp (c.at_goal.ensures, c.files_goal.ensures, le-leb c.args.n 512 c.if-n-le512.true)

pub returns-else-n-le512 : goal.returns-else-n-le512
unfolding after_word
returns-else-n-le512 c = simp (c.stopped.ensures, lt-leb c.args.n 512 c.if-n-le512.false)
