use mathlib.Core.Path.{sym, ap, ◌∙◌}
use borrow.Author.Tests.{eq-eqb, ne_eqb}
use Rattle.std.specs.Prelude.{ℕ, Ok, Some}
use Rattle.feed_lent.specs.Steps.{end_of}
use Rattle.feed_lent.proofs.OnceLaws.{end_once}
use Rattle.feed_lent.proofs.once.at_once.Goals as goal

pub returns-in-Ok : goal.returns-in-Ok
returns-in-Ok c = ap (λ (n : ℕ). Ok (Some n)) c.message_end.ensures ∙ ap end_of (sym c.in-Ok.is ∙ c.read.ensures) ∙ end_once c.args.edition c.args.run.now

pub returns-then-r-eq1 : goal.returns-then-r-eq1
returns-then-r-eq1 c = sym (simp (eq-eqb c.in-Err.r.number 1 c.if-r-eq1.true)) ∙ ap end_of (sym c.in-Err.is ∙ c.read.ensures) ∙ end_once c.args.edition c.args.run.now

pub returns-else-r-eq1 : goal.returns-else-r-eq1
returns-else-r-eq1 c = sym (simp (ne_eqb c.in-Err.r.number 1 c.if-r-eq1.false)) ∙ ap end_of (sym c.in-Err.is ∙ c.read.ensures) ∙ end_once c.args.edition c.args.run.now
