use borrow.Author.Tests.{eq-eqb, ne_eqb}
use Rattle.feed.specs.Steps.Next.{after_word}
use Rattle.feed.proofs.words.after_hash_length.Goals as goal

pub returns-then-n-eq32 : goal.returns-then-n-eq32
unfolding after_word
returns-then-n-eq32 c = simp (c.at_goal.ensures, eq-eqb c.args.n 32 c.if-n-eq32.true)

pub returns-else-n-eq32 : goal.returns-else-n-eq32
unfolding after_word
returns-else-n-eq32 c = simp (c.stopped.ensures, ne_eqb c.args.n 32 c.if-n-eq32.false)
