use mathlib.Core.Path.{sym, ◌∙◌}
use Rattle.feed.specs.Steps.Next.{after_word}
use Rattle.feed.proofs.words.after_size.Goals as goal

pub returns-then-is_size : goal.returns-then-is_size
unfolding after_word
returns-then-is_size c = simp (c.at_goal.ensures, sym c.is_size.ensures ∙ c.if-is_size.true)

pub returns-else-is_size : goal.returns-else-is_size
unfolding after_word
returns-else-is_size c = simp (c.stopped.ensures, sym c.is_size.ensures ∙ c.if-is_size.false)
