use mathlib.Core.Path.{ap, ◌∙◌}
use Prim.Native.Nat.{◌+◌, ◌*◌}
use native.Mathlib.Omega.{arith}
use Rattle.feed.specs.declared.state.Cursor.{Cursor}
use Rattle.feed.specs.declared.state.Goal.{Goal}
use Rattle.feed.proofs.CodeLaws.{bounded_at}
use Rattle.feed.specs.Rest.{at_goal}
use Rattle.feed.proofs.BlockMoves.{block_moves}
use Rattle.feed.proofs.moves.block_move.Goals as goal

pub overflow_add-all : goal.overflow_add-all
overflow_add-all c = omega (arith, bounded_at c.args.state _ c.requires.1 c.requires.0)

pub overflow_mul-size : goal.overflow_mul-size
overflow_mul-size c = omega (arith, c.sound_front-n.ensures.0, c.least.ensures.0, bounded_at c.args.state _ c.requires.1 c.requires.0)

pub overflow_sub-all : goal.overflow_sub-all
overflow_sub-all c = omega (arith, c.sound_front-n.ensures.0, c.least.ensures.0)

pub overflow_add-state : goal.overflow_add-state
overflow_add-state c = omega (arith, c.sound_front-n.ensures.0, c.least.ensures.0, bounded_at c.args.state _ c.requires.1 c.requires.0)

pub returns : goal.returns
returns c = block_moves c.args.state c.args.part.now _ c.args.blocks c.args.files c.sound_front-n.result c.requires.0 c.requires.1 c.requires.2
    (λ i. (c.type_inv.part i).fits) (omega (arith, c.if-n-eq0.false)) (omega (arith, c.sound_front-n.ensures.0, c.least.ensures.0)) c.sound_front-n.ensures.1
    (ap (λ (x : Cursor). record { state = x; taken = c.sound_front-n.result * 40 }) (c.at_goal.ensures ∙ ap (λ (g : Goal). at_goal g (c.args.state.place + c.sound_front-n.result * 40)) c.blocks_goal.ensures))
