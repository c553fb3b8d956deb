use Prim.Native.Nat.{ℕ}
use mathlib.Core.Path.{sym, ap, ◌∙◌}
use Rattle.std.specs.Prelude.{Some}
use Rattle.want.specs.Steps.Turn.{turn_of}
use Rattle.want.proofs.turn.turn_of.Goals as goal

pub returns-in_err-f : goal.returns-in_err-f
returns-in_err-f c = c.from_residual.ensures ∙ ap (turn_of c.args.best) (sym c.in_err-f.was)

pub returns : goal.returns
returns c = ap (λ (n : ℕ). Some (record { first = c.in_ok-f.f.first; count = n })) c.sought.ensures ∙ ap (turn_of c.args.best) (sym c.in_ok-f.was)
