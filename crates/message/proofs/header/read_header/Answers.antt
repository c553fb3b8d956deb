-- The word's steps, and then its tests.
use Rattle.std.proofs.Common.{ap}
use Rattle.std.specs.Prelude.{Err}
use Prim.Native.Nat.{ℕ, ◌≤◌, ◌<◌}
use mathlib.Core.Path.{◌≡◌, sym, ◌∙◌}
use mathlib.Core.Bool.{true, false}
use native.Mathlib.Omega.{arith}
use borrow.Author.Tests.{eq-eqb, ne_eqb, le-leb, lt-leb}
use lib.Dec.{eqb}
use Rattle.xdr.specs.Format.{Format, checked}
use Rattle.xdr.specs.Fields.{word}
use Rattle.xdr.specs.Answers.{word_answer}
use Rattle.xdr.proofs.Answered.{handed_up, word_taken, word_refused}
use Rattle.xdr.proofs.Steps.{answered, checked_refused, checked_failed, checked_passed}
use Rattle.message.specs.Header.{version_of, last_type, is_type}
use Rattle.message.specs.declared.edition.Edition.{Edition}
use Rattle.message.proofs.header.read_header.Goals as goal

abbrev versioned : Format ℕ
versioned = checked 2 (λ h. eqb (version_of h) 0) word

type-fits : (e : Edition) (k n last : ℕ) → k ≡ n → last ≡ last_type e → (k ≡ 0 → ⊥) → k ≤ last → is_type e n ≡ true
type-fits e k n last a b p q = simp (le-leb 1 n (omega arith), le-leb n (last_type e) (omega arith))

type_zero : (e : Edition) (k n : ℕ) → k ≡ n → k ≡ 0 → is_type e n ≡ false
type_zero e k n a p = simp (lt-leb 1 n (omega arith))

type-large : (e : Edition) (k n last : ℕ) → k ≡ n → last ≡ last_type e → last < k → is_type e n ≡ false
type-large e k n last a b p = simp (le-leb 1 n (omega arith), lt-leb n (last_type e) (omega arith))

pub returns-in_default : goal.returns-in_default
returns-in_default c = handed_up c.in_default.is c.refusal_of.ensures ∙ answered word_answer (checked_refused (checked_refused (checked_refused (word_refused c.read_word-answer.ensures c.in_default.is))))

pub returns-then-version_of-ne0 : goal.returns-then-version_of-ne0
returns-then-version_of-ne0 c = ap Err c.at_start.ensures ∙ answered word_answer (checked_refused (checked_refused (checked_failed (word_taken c.read_word-answer.ensures c.in-Ok.is)
    (ne_eqb _ _ (λ e. c.if-version_of-ne0.true (c.version_of.ensures ∙ e))))))

pub returns-then-kind-eq0 : goal.returns-then-kind-eq0
returns-then-kind-eq0 c = ap Err c.at_start-then-kind-eq0.ensures ∙ answered word_answer (checked_refused (checked_failed (checked_passed (word_taken c.read_word-answer.ensures c.in-Ok.is) (eq-eqb _ _ (sym c.version_of.ensures ∙ c.if-version_of-ne0.false))) (type_zero c.args.edition _ _ c.type_of-kind.ensures c.if-kind-eq0.true)))

pub returns-then-last_type-kind : goal.returns-then-last_type-kind
returns-then-last_type-kind c = ap Err c.at_start-then-last_type-kind.ensures ∙ answered word_answer (checked_refused (checked_failed (checked_passed (word_taken c.read_word-answer.ensures c.in-Ok.is) (eq-eqb _ _ (sym c.version_of.ensures ∙ c.if-version_of-ne0.false))) (type-large c.args.edition _ _ _ c.type_of-kind.ensures c.last_type.ensures c.if-last_type-kind.true)))

pub returns-then-reserved_of-ne0 : goal.returns-then-reserved_of-ne0
returns-then-reserved_of-ne0 c = ap Err c.at_start-then-reserved_of-ne0.ensures ∙ answered word_answer (checked_failed (checked_passed (checked_passed (word_taken c.read_word-answer.ensures c.in-Ok.is) (eq-eqb _ _ (sym c.version_of.ensures ∙ c.if-version_of-ne0.false))) (type-fits c.args.edition _ _ _ c.type_of-kind.ensures c.last_type.ensures c.if-kind-eq0.false c.if-last_type-kind.false)) (ne_eqb _ _ (λ e. c.if-reserved_of-ne0.true (c.reserved_of.ensures ∙ e))))

pub returns : goal.returns
returns c = answered word_answer (checked_passed (checked_passed (checked_passed (word_taken c.read_word-answer.ensures c.in-Ok.is) (eq-eqb _ _ (sym c.version_of.ensures ∙ c.if-version_of-ne0.false))) (type-fits c.args.edition _ _ _ c.type_of-kind.ensures c.last_type.ensures c.if-kind-eq0.false c.if-last_type-kind.false)) (eq-eqb _ _ (sym c.reserved_of.ensures ∙ c.if-reserved_of-ne0.false)))
