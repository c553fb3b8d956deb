use borrow.Author.Tests.{lt-ltb, le-ltb}
use Rattle.feed.specs.Steps.Next.{after_word}
use Rattle.feed.proofs.words.after_flags.Goals as goal

pub returns-then-f-lt16384 : goal.returns-then-f-lt16384
unfolding after_word
returns-then-f-lt16384 c = simp (c.at_goal.ensures, c.is_deleted.ensures, lt-ltb c.args.f 16384 c.if-f-lt16384.true)

pub returns-else-f-lt16384 : goal.returns-else-f-lt16384
unfolding after_word
returns-else-f-lt16384 c = simp (c.stopped.ensures, le-ltb c.args.f 16384 c.if-f-lt16384.false)
