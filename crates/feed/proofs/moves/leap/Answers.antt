use mathlib.Core.Path.{ap, ◌∙◌}
use Rattle.feed.specs.declared.state.StringField.{StringField}
use Rattle.feed.specs.declared.state.Goal.TheVariants as G
use Rattle.feed.proofs.moves.leap.Goals as goal

pub file_move-requires : goal.file_move-requires
file_move-requires c = (c.requires.0, c.requires.1 ∙ ap (λ (f : StringField). G.String f) c.in-File.is, c.requires.2, c.requires.3)

pub option_move-requires : goal.option_move-requires
option_move-requires c = (c.requires.0, c.requires.1 ∙ ap (λ (f : StringField). G.String f) c.in-Key.is, c.requires.2, c.requires.3)
