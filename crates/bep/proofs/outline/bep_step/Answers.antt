-- The name of a record that a step finds starts before it ends.
use Rattle.std.proofs.Common.{sym, subst, ◌∙◌}
use Rattle.bep.proofs.StepLaws.{NameFirst, name_first}
use Rattle.bep.proofs.outline.bep_step.Goals as goal

pub field_words-requires : goal.field_words-requires
field_words-requires c = rw c.in-Ok-Some.field-0-is at (subst NameFirst (sym (sym c.in-Ok-Some.is ∙ c.step_at.ensures)) (name_first c.args.table.now c.args.at))
