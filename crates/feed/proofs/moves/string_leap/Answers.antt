use mathlib.Core.Path.{ap, ◌∙◌}
use Prim.Native.Nat.{◌+◌, ◌≤◌}
use native.Mathlib.Omega.{arith}
use Rattle.feed.specs.declared.state.Cursor.{Cursor}
use Rattle.feed.specs.declared.state.Goal.{Goal}
use Rattle.feed.proofs.CodeLaws.{limit_most, bounded_at}
use Rattle.feed.specs.Rest.{at_goal, limit_of}
use Rattle.feed.specs.Steps.Moves.{string_format}
use Rattle.xdr.proofs.Answered.{bytes_taken}
use Rattle.feed.proofs.WholeMoves.{whole_at, string_some, string_moves}
use Rattle.feed.proofs.moves.string_leap.Goals as goal

pub overflow_add-state : goal.overflow_add-state
overflow_add-state c = let b : c.in-Ok.n ≤ limit_of c.args.string + 8 = omega (arith, c.if-limit_of-n.false, c.limit_of.ensures) in omega (arith, limit_most c.args.string, bounded_at c.args.state _ c.requires.1 c.requires.0)

pub returns : goal.returns
returns c = let r = (bytes_taken {F = string_format c.args.string} c.read_string.ensures c.in-Ok.is).1 in
    string_moves c.args.state c.args.part.now _ c.in-Ok.n c.requires.0 c.requires.2 (string_some c.args.string r) c.args.string c.requires.1 (whole_at r) (omega (arith, c.if-limit_of-n.false, c.limit_of.ensures))
    (ap (λ (x : Cursor). record { state = x; taken = c.in-Ok.n }) (c.at_goal.ensures ∙ ap (λ (g : Goal). at_goal g (c.args.state.place + c.in-Ok.n)) c.behind_string.ensures))
