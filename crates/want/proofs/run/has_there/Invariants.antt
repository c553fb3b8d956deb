use Rattle.want.specs.Listing.{block_with}
use Rattle.want.specs.Steps.Runs.{is_ahead, mark_of}
use Rattle.want.proofs.RunLaws.{run_of, Looking}
use Rattle.want.proofs.run.has_there.Given as goal

abbrev pub invariant-loop-j : goal.invariant-loop-j
invariant-loop-j l = Looking l.s l.first l.fn.run.count l.offset (block_with l.size l.hash) (is_ahead l.s (run_of l.first l.fn.run.count) (mark_of l.fn.mark.j l.fn.mark.from) l.offset (block_with l.size l.hash)) l.j l.from
