use mathlib.Core.Path.{sym, ◌∙◌}
use borrow.Author.Tests.{eq-eqb, ne_eqb}
use native.Mathlib.Omega.{arith}
use Rattle.message.specs.Header.{version_of, type_of, reserved_of}
use Rattle.feed.specs.Steps.Next.{after_word}
use Rattle.feed.proofs.CodeLaws.{type_zero, type_high, type_right}
use Rattle.feed.proofs.words.after_start.Goals as goal

pub returns-then-version_of-ne0 : goal.returns-then-version_of-ne0
unfolding after_word
returns-then-version_of-ne0 c = simp (c.stopped.ensures, ne_eqb (version_of c.args.h) 0 (λ e. c.if-version_of-ne0.true (c.version_of.ensures ∙ e)))

pub returns-then-kind-eq0 : goal.returns-then-kind-eq0
unfolding after_word
returns-then-kind-eq0 c = simp (c.stopped-then-kind-eq0.ensures, eq-eqb (version_of c.args.h) 0 (sym c.version_of.ensures ∙ c.if-version_of-ne0.false), type_zero c.args.edition (type_of c.args.h) (sym c.type_of-kind.ensures ∙ c.if-kind-eq0.true))

pub returns-then-last_type-kind : goal.returns-then-last_type-kind
unfolding after_word
returns-then-last_type-kind c = simp (c.stopped-then-last_type-kind.ensures, eq-eqb (version_of c.args.h) 0 (sym c.version_of.ensures ∙ c.if-version_of-ne0.false), type_high c.args.edition (type_of c.args.h) (λ e. c.if-kind-eq0.false (c.type_of-kind.ensures ∙ e)) (omega (arith, c.if-last_type-kind.true, c.last_type.ensures, c.type_of-kind.ensures)))

pub returns-then-reserved_of-ne0 : goal.returns-then-reserved_of-ne0
unfolding after_word
returns-then-reserved_of-ne0 c = simp (c.stopped-then-reserved_of-ne0.ensures, eq-eqb (version_of c.args.h) 0 (sym c.version_of.ensures ∙ c.if-version_of-ne0.false), type_right c.args.edition (type_of c.args.h) (λ e. c.if-kind-eq0.false (c.type_of-kind.ensures ∙ e)) (omega (arith, c.if-last_type-kind.false, c.last_type.ensures, c.type_of-kind.ensures)), ne_eqb (reserved_of c.args.h) 0 (λ e. c.if-reserved_of-ne0.true (c.reserved_of.ensures ∙ e)))

pub returns : goal.returns
unfolding after_word
returns c = simp (c.at_goal.ensures, c.body_goal.ensures, c.type_of-kind.ensures, eq-eqb (version_of c.args.h) 0 (sym c.version_of.ensures ∙ c.if-version_of-ne0.false), type_right c.args.edition (type_of c.args.h) (λ e. c.if-kind-eq0.false (c.type_of-kind.ensures ∙ e)) (omega (arith, c.if-last_type-kind.false, c.last_type.ensures, c.type_of-kind.ensures)), eq-eqb (reserved_of c.args.h) 0 (sym c.reserved_of.ensures ∙ c.if-reserved_of-ne0.false))
