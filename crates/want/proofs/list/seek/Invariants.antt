use Prim.Native.Nat.{◌-◌}
use mathlib.Core.List.{map}
use Rattle.want.specs.Steps.Places.{Begun}
use Rattle.want.proofs.SideLaws.{total}
use Rattle.want.proofs.list.seek.Given as goal

abbrev pub invariant-loop-turn : goal.invariant-loop-turn
invariant-loop-turn l = Begun (map (λ x. x.now) l.tables) l.file l.places

abbrev pub decreases-loop-turn : goal.decreases-loop-turn
decreases-loop-turn l = 327680 - total l.places
