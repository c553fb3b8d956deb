use mathlib.Core.Path.{ap, ◌∙◌}
use Prim.Native.Nat.{◌+◌}
use native.Mathlib.Omega.{arith}
use Rattle.feed.specs.declared.state.Cursor.{Cursor}
use Rattle.feed.specs.declared.state.Goal.{Goal}
use Rattle.feed.proofs.CodeLaws.{bounded_at}
use Rattle.feed.specs.Rest.{at_goal}
use Rattle.record.proofs.Answered.{option_taken}
use Rattle.feed.proofs.WholeMoves.{whole_at, option_some, option_moves}
use Rattle.feed.proofs.moves.option_move.Goals as goal

pub overflow_add-state : goal.overflow_add-state
overflow_add-state c = omega (arith, c.if-option-gt400.false, bounded_at c.args.state _ c.requires.1 c.requires.0)

pub returns : goal.returns
returns c = let o = option_taken c.read_option.ensures c.in-Ok.is in
    option_moves c.args.state c.args.part.now _ c.in-Ok.option.next c.requires.0 c.requires.2 (option_some o.1) c.args.options c.requires.1 (whole_at o.1) c.if-option-gt400.false
    (ap (λ (x : Cursor). record { state = x; taken = c.in-Ok.option.next }) (c.at_goal.ensures ∙ ap (λ (g : Goal). at_goal g (c.args.state.place + c.in-Ok.option.next)) c.options_goal.ensures))
