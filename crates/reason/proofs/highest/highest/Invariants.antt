use mathlib.Core.List.{map}
use Rattle.reason.specs.Steps.{lookup, BestOf}
use Rattle.reason.proofs.BestLaws.{merged_from}
use Rattle.reason.proofs.highest.highest.Given as goal

abbrev pub invariant-loop-k : goal.invariant-loop-k
invariant-loop-k l = BestOf (map (λ x. x.now) l.tables) l.best (lookup l.name (merged_from (map (λ x. x.now) l.tables) l.k))
