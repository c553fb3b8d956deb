use Prim.Native.Nat.{◌-◌}
use mathlib.Core.List.{map}
use Rattle.want.proofs.SideLaws.{total}
use Rattle.want.proofs.DoneLaws.{Counted}
use Rattle.want.proofs.list.count.Given as goal

abbrev pub invariant-loop-turn : goal.invariant-loop-turn
invariant-loop-turn l = Counted (map (λ x. x.now) l.tables) l.places l.n

abbrev pub decreases-loop-turn : goal.decreases-loop-turn
decreases-loop-turn l = 327680 - total l.places
