-- Each return is one of the laws of what is missing.
use Rattle.std.proofs.Common.{sym, ◌∙◌}
use Rattle.record.proofs.StringLaws.{string_there, string_missing}
use Rattle.record.proofs.MissingLaws.{record_name, record_rest}
use Rattle.record.proofs.missing.missing_at.Goals as goal

pub returns-in_default : goal.returns-in_default
returns-in_default c = record_name _ _ (string_missing _ _ (sym c.in_default.is ∙ c.string_at.ensures))

pub overflow_sub-s : goal.overflow_sub-s
overflow_sub-s c = (string_there _ _ (sym c.in-Some.is ∙ c.string_at.ensures)).room

pub returns : goal.returns
returns c = c.missing_after.ensures ∙ record_rest _ _ (string_there _ _ (sym c.in-Some.is ∙ c.string_at.ensures))
