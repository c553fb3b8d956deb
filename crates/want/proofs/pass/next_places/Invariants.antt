use mathlib.Core.List.{map}
use mathlib.Core.Path.{◌≡◌}
use lib.ListN.{length}
use Rattle.want.proofs.PassLaws.{Named}
use Rattle.want.proofs.pass.next_places.Given as goal

abbrev pub invariant-loop-k : goal.invariant-loop-k
invariant-loop-k l = Named (map (λ x. x.now) l.tables) l.places l.k l.best l.past × (length l.places ≡ 5)
