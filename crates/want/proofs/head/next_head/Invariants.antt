use mathlib.Core.List.{map}
use mathlib.Core.Path.{◌≡◌}
use lib.ListN.{length}
use Rattle.want.specs.Steps.Head.{Headed}
use Rattle.want.proofs.head.next_head.Given as goal

abbrev pub invariant-loop-k : goal.invariant-loop-k
invariant-loop-k l = Headed (map (λ x. x.now) l.tables) l.places l.k l.best l.fields l.past × (length l.places ≡ 5)
