-- The tags one after another, each return by its law.
use Rattle.settings.proofs.FieldLaws.{allowance_long, with_window, with_allowance, with_repository_lem, with_note, with_carried}
use Rattle.settings.proofs.field.with_field.Goals as goal

pub returns-then-tag-eq-WINDOW : goal.returns-then-tag-eq-WINDOW
returns-then-tag-eq-WINDOW c = with_window _ _ _ _ c.requires.1 c.if-tag-eq-WINDOW.true c.byte_in.ensures

pub returns-then-tag-eq-ALLOWANCE : goal.returns-then-tag-eq-ALLOWANCE
returns-then-tag-eq-ALLOWANCE c =
    let four = c.word_in.ensures (allowance_long _ _ c.if-tag-eq-ALLOWANCE.true c.requires.0) in
    with_allowance _ _ _ _ c.requires.1 c.if-tag-eq-ALLOWANCE.true four

pub returns-then-tag-eq-REPOSITORY : goal.returns-then-tag-eq-REPOSITORY
returns-then-tag-eq-REPOSITORY c = with_repository_lem _ _ _ _ c.requires.1 c.if-tag-eq-REPOSITORY.true

pub returns-then-tag-eq-NOTE : goal.returns-then-tag-eq-NOTE
returns-then-tag-eq-NOTE c = with_note _ _ _ _ c.requires.1 c.if-tag-eq-NOTE.true

pub returns : goal.returns
returns c = with_carried _ _ _ _ c.if-tag-eq-WINDOW.false c.if-tag-eq-ALLOWANCE.false c.if-tag-eq-REPOSITORY.false c.if-tag-eq-NOTE.false
