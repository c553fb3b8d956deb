use Rattle.xdr.proofs.Runs.{Progress}
use Rattle.record.specs.KeyValue.{key_value}
use Rattle.record.proofs.option.read_options.Given as goal

-- so many options have been read, and end where the next begins
abbrev pub invariant-loop-i : goal.invariant-loop-i
invariant-loop-i l = Progress key_value l.s l.first l.i l.next
