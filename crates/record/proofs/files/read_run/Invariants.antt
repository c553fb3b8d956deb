use Rattle.std.proofs.Common.{◌-◌, ◌≤◌}
use Rattle.record.proofs.CheckLaws.{Checked}
use Rattle.record.proofs.files.read_run.Given as goal

abbrev pub invariant-loop-i : goal.invariant-loop-i
invariant-loop-i l = Checked l.rising l.s l.first l.i l.next l.from l.to × (l.i ≤ l.count)

abbrev pub decreases-loop-i : goal.decreases-loop-i
decreases-loop-i l = l.count - l.i
