use mathlib.Core.Path.{ap}
use Rattle.feed.proofs.MoveLaws.{byte_moves}
use Rattle.feed.specs.declared.state.Cursor.{Cursor}
use Rattle.feed.proofs.moves.byte_move.Goals as goal

pub returns : goal.returns
returns c = byte_moves c.args.state c.args.part.now _ c.requires.0 c.requires.1 c.requires.2 (c.shared_slice_known-1.given 0).fits (ap (λ (x : Cursor). record { state = x; taken = 1 }) c.step.ensures)
