use Prim.Native.Nat.{◌≤◌}
use Rattle.accept.proofs.ShiftLaws.{Shifted}
use Rattle.accept.proofs.accepting.insert_at.Given as goal

abbrev pub invariant-loop-k : goal.invariant-loop-k
invariant-loop-k l = Shifted l.initial.places l.places l.k × (l.j ≤ l.k)
