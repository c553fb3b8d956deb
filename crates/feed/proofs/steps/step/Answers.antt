use mathlib.Core.Path.{sym, ap, ◌∙◌}
use native.Mathlib.Omega.{arith}
use Rattle.feed.specs.Steps.Next.{goal_after, stepped}
use Rattle.feed.proofs.CodeLaws.{small_word, fits_at, bounded_at}
use Rattle.feed.specs.declared.state.Goal.{Goal}
use Rattle.feed.proofs.steps.step.Goals as goal

pub word_after-requires : goal.word_after-requires
word_after-requires c = let f = fits_at c.in-Word.is c.requires in (omega (arith, bounded_at c.args.state _ c.in-Word.is c.requires), small_word _ _ f.0 f.1)

pub string_after-requires : goal.string_after-requires
string_after-requires c = (omega (arith, bounded_at c.args.state _ c.in-String.is c.requires), fits_at c.in-String.is c.requires)

pub gap_after-requires : goal.gap_after-requires
gap_after-requires c = let f = fits_at c.in-Skip.is c.requires in (omega (arith, bounded_at c.args.state _ c.in-Skip.is c.requires, f.1), f.1)

pub returns-in-Word : goal.returns-in-Word
unfolding stepped
returns-in-Word c = c.word_after.ensures ∙ ap (λ (g : Goal). goal_after g c.args.state c.args.b) (sym c.in-Word.is)

pub returns-in-String : goal.returns-in-String
unfolding stepped
returns-in-String c = c.string_after.ensures ∙ ap (λ (g : Goal). goal_after g c.args.state c.args.b) (sym c.in-String.is)

pub returns-in-Skip : goal.returns-in-Skip
unfolding stepped
returns-in-Skip c = c.gap_after.ensures ∙ ap (λ (g : Goal). goal_after g c.args.state c.args.b) (sym c.in-Skip.is)

pub returns-in-Ended : goal.returns-in-Ended
unfolding stepped
returns-in-Ended c = ap (λ (g : Goal). goal_after g c.args.state c.args.b) (sym c.in-Ended.is)

pub returns-in-Stopped : goal.returns-in-Stopped
unfolding stepped
returns-in-Stopped c = ap (λ (g : Goal). goal_after g c.args.state c.args.b) (sym c.in-Stopped.is)
