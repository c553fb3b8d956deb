-- Each return is one of the laws of what is missing.
use Rattle.std.proofs.Common.{sym, ◌∙◌}
use Rattle.record.proofs.StringLaws.{string_there, string_missing}
use Rattle.record.proofs.MissingLaws.{option_key, option_value}
use Rattle.record.proofs.missing.option_missing_at.Goals as goal

pub returns-in-Some : goal.returns-in-Some
returns-in-Some c = option_value _ _ (string_there _ _ (sym c.in-Some.is ∙ c.string_at.ensures))

pub returns-in-None : goal.returns-in-None
returns-in-None c = option_key _ _ (string_missing _ _ (sym c.in-None.is ∙ c.string_at.ensures))
