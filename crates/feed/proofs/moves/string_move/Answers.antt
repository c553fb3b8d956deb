use mathlib.Core.Path.{refl}
use Rattle.feed.proofs.CodeLaws.{wants_at}
use Rattle.feed.proofs.moves.string_move.Goals as goal

pub byte_move-requires : goal.byte_move-requires
byte_move-requires c = (c.requires.0, wants_at c.args.state _ c.requires.1 refl, c.requires.2)
