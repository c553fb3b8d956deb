use Rattle.feed.proofs.FrontLaws.{Fronting}
use Rattle.feed.proofs.front.front_after.Given as goal

abbrev pub invariant-loop-b : goal.invariant-loop-b
invariant-loop-b l = Fronting l.initial.f l.run l.f l.b-index
