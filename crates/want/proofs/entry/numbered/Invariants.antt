use Prim.Native.Nat.{◌-◌}
use mathlib.Core.List.{map}
use Rattle.want.proofs.NumberLaws.{Ahead}
use Rattle.want.proofs.entry.numbered.Given as goal

abbrev pub invariant-loop : goal.invariant-loop
invariant-loop l = Ahead (map (λ x. x.now) l.tables) l.places l.file (l.file - l.counter)
