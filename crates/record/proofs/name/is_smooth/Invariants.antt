use Rattle.std.proofs.Common.{◌≡◌, ◌-◌, ◌≤◌, true, length}
use Rattle.record.specs.Steps.{Smooth}
use Rattle.record.proofs.name.is_smooth.Given as goal

abbrev pub invariant-loop-i : goal.invariant-loop-i
invariant-loop-i l = (1 ≤ l.i) × (l.smooth ≡ true → Smooth l.s (l.i - 1))
