use Rattle.std.proofs.Common.{◌%◌, ◌-◌, ◌≤◌, ◌≡◌, length}
use Rattle.record.specs.Steps.{Smooth}
use Rattle.record.proofs.name.past_eights.Given as goal

abbrev pub invariant-loop-i : goal.invariant-loop-i
invariant-loop-i l = (l.i % 8 ≡ 0) × (l.i ≤ l.whole) × Smooth l.s l.i

abbrev pub decreases-loop-i : goal.decreases-loop-i
decreases-loop-i l = l.whole - l.i
