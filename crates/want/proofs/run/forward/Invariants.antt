use Rattle.want.specs.Steps.Runs.{mark_of, Marked}
use Rattle.want.proofs.RunLaws.{run_of}
use Rattle.want.proofs.run.forward.Given as goal

abbrev pub invariant-loop-j : goal.invariant-loop-j
invariant-loop-j l = Marked l.s (run_of l.first l.fn.run.count) (mark_of l.j l.from) l.offset
