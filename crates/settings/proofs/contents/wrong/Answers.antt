-- The tests one after another, each return by its law.
use Prim.Native.Nat.{ℕ}
use mathlib.Core.Path.{ap, ◌∙◌}
use mathlib.Core.Bool.{Bool, cond}
use native.Mathlib.Omega.{arith}
use Rattle.std.specs.Prelude.{Some, None}
use Rattle.std.specs.declared.option.Option.{Option}
use Rattle.settings.specs.Steps.{unless_0}
use Rattle.settings.proofs.FieldLaws.{wrong_window, wrong_allowance, wrong_repository, wrong_note, wrong_unknown, wrong_above}
use Rattle.settings.proofs.contents.wrong.Goals as goal

-- what isn't as it should be
abbrev unless_good : Bool → Option ℕ
unless_good b = cond b None (Some 26)

pub returns-then-tag-eq-WINDOW : goal.returns-then-tag-eq-WINDOW
returns-then-tag-eq-WINDOW c = wrong_window _ _ _ c.if-tag-eq-WINDOW.true (c.unless.ensures ∙ ap unless_good c.is_window.ensures)

pub returns-then-tag-eq-ALLOWANCE : goal.returns-then-tag-eq-ALLOWANCE
returns-then-tag-eq-ALLOWANCE c = wrong_allowance _ _ _ c.if-tag-eq-ALLOWANCE.true (c.unless-then-tag-eq-ALLOWANCE.ensures ∙ ap unless_good c.is_allowance.ensures)

pub returns-then-tag-eq-REPOSITORY : goal.returns-then-tag-eq-REPOSITORY
returns-then-tag-eq-REPOSITORY c = wrong_repository _ _ _ c.if-tag-eq-REPOSITORY.true (c.unless-then-tag-eq-REPOSITORY.ensures ∙ ap unless_good c.is_repository.ensures)

pub returns-then-tag-lt-NOTE : goal.returns-then-tag-lt-NOTE
returns-then-tag-lt-NOTE c =
    ap unless_0 (wrong_unknown c.args.tag c.args.contents.now c.if-tag-eq-WINDOW.false c.if-tag-eq-ALLOWANCE.false c.if-tag-eq-REPOSITORY.false c.if-tag-lt-NOTE.true)

pub returns-then-tag-eq-NOTE : goal.returns-then-tag-eq-NOTE
returns-then-tag-eq-NOTE c = wrong_note _ _ _ c.if-tag-eq-NOTE.true (c.unless-then-tag-eq-NOTE.ensures ∙ ap unless_good c.is_note.ensures)

pub returns : goal.returns
returns c = ap unless_0 (wrong_above c.args.tag c.args.contents.now (omega arith))
