use mathlib.Core.Path.{ap, ◌∙◌}
use Prim.Native.Nat.{◌+◌}
use native.Mathlib.Omega.{arith}
use Rattle.feed.specs.declared.state.Cursor.{Cursor}
use Rattle.feed.specs.declared.state.Goal.{Goal}
use Rattle.feed.proofs.CodeLaws.{bounded_at}
use Rattle.feed.specs.Rest.{at_goal}
use Rattle.record.proofs.Answered.{file_taken}
use Rattle.feed.proofs.WholeMoves.{whole_at, file_some, file_moves}
use Rattle.feed.proofs.moves.file_move.Goals as goal

pub overflow_add-state : goal.overflow_add-state
overflow_add-state c = omega (arith, c.if-file-gt42000.false, bounded_at c.args.state _ c.requires.1 c.requires.0)

pub returns : goal.returns
returns c = let f = file_taken c.read_file.ensures c.in-Ok.is in
    file_moves c.args.state c.args.part.now _ c.in-Ok.file.next c.requires.0 c.requires.2 (file_some f.1) c.args.files c.requires.1 (whole_at f.1) c.if-file-gt42000.false
    (ap (λ (x : Cursor). record { state = x; taken = c.in-Ok.file.next }) (c.at_goal.ensures ∙ ap (λ (g : Goal). at_goal g (c.args.state.place + c.in-Ok.file.next)) c.files_goal.ensures))
