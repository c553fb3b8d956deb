use Rattle.table.specs.Table.{records}
use Rattle.want.proofs.CountLaws.{Counting}
use Rattle.want.proofs.list.count_blocks.Given as goal

abbrev pub invariant-loop-j : goal.invariant-loop-j
invariant-loop-j l = Counting (records l.local) l.t l.first l.blocks l.n l.j
