use mathlib.Core.Path.{refl, ap, ◌∙◌}
use Rattle.feed.specs.declared.state.WordField.{WordField}
use Rattle.feed.proofs.CodeLaws.{wants_at}
use Rattle.feed.specs.declared.state.Goal.TheVariants as G
use Rattle.feed.proofs.moves.word_move.Goals as goal

pub byte_move-requires : goal.byte_move-requires
byte_move-requires c = (c.requires.0, wants_at c.args.state _ c.requires.1 refl, c.requires.2)

pub whole_word-requires : goal.whole_word-requires
whole_word-requires c = (c.requires.0, c.requires.1, c.if-state-ne0.false, c.requires.2)

pub block_move-requires : goal.block_move-requires
block_move-requires c = (c.requires.0, c.requires.1 ∙ ap (λ (f : WordField). G.Word f) c.in-Block.is, c.if-state-ne0.false, c.requires.2)
