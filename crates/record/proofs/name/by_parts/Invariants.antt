use Rattle.std.proofs.Common.{◌-◌, length}
use Rattle.record.proofs.PathSteps.{Gone}
use Rattle.record.proofs.name.by_parts.Given as goal

abbrev pub invariant-loop-i : goal.invariant-loop-i
invariant-loop-i l = Gone l.s l.start l.i
