-- Four bytes are a word, and fewer are refused.
use mathlib.Core.Path.{sym, ◌∙◌}
use Rattle.settings.proofs.FieldLaws.{four_taken, four_refused}
use Rattle.settings.proofs.contents.word_in.Goals as goal

pub returns-in-Ok : goal.returns-in-Ok
returns-in-Ok c = λ h. four_taken c.args.contents.now _ _ (sym c.in-Ok.is ∙ c.read_word.ensures) h

pub returns-in-Err : goal.returns-in-Err
returns-in-Err c = λ h. absurd (four_refused c.args.contents.now _ (sym c.in-Err.is ∙ c.read_word.ensures) h)
