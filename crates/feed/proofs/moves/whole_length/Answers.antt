use mathlib.Core.Path.{refl, ap}
use native.Mathlib.Omega.{arith}
use Rattle.feed.specs.declared.state.Cursor.{Cursor}
use Rattle.feed.proofs.CodeLaws.{bounded_at, wants_at}
use Rattle.feed.proofs.MoveLaws.{length_moves}
use Rattle.xdr.proofs.Answered.{word_taken}
use Rattle.feed.proofs.moves.whole_length.Goals as goal

pub byte_move-requires : goal.byte_move-requires
byte_move-requires c = (c.requires.0, wants_at c.args.state _ c.requires.1 refl, c.requires.3)

pub after_length-requires : goal.after_length-requires
after_length-requires c = omega (arith, bounded_at c.args.state _ c.requires.1 c.requires.0)

pub returns : goal.returns
returns c = length_moves c.args.state c.args.part.now _ c.requires.0 c.requires.2 c.args.string c.in-Ok.w c.requires.1
    (word_taken c.read_word.ensures c.in-Ok.is) (ap (λ (x : Cursor). record { state = x; taken = 4 }) c.after_length.ensures)
