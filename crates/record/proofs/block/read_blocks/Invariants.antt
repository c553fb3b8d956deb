use Rattle.xdr.proofs.Runs.{Progress}
use Rattle.record.specs.Block.{block}
use Rattle.record.proofs.block.read_blocks.Given as goal

-- so many blocks have been read, and end where the next begins
abbrev pub invariant-loop-i : goal.invariant-loop-i
invariant-loop-i l = Progress block l.s l.first l.i l.next
