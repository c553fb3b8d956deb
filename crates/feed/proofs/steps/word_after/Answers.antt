use borrow.Author.Tests.{lt-ltb, le-ltb}
use Rattle.feed.proofs.steps.word_after.Goals as goal

pub returns-then-have-lt3 : goal.returns-then-have-lt3
returns-then-have-lt3 c = simp (c.gathered.ensures, c.joined.ensures, lt-ltb c.args.have 3 c.if-have-lt3.true)

pub returns-else-have-lt3 : goal.returns-else-have-lt3
returns-else-have-lt3 c = simp (c.after_word.ensures, c.joined-else-have-lt3.ensures, le-ltb c.args.have 3 c.if-have-lt3.false)
