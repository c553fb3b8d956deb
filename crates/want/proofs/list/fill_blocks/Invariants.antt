use mathlib.Core.List.{map}
use Rattle.table.specs.Table.{records}
use Rattle.want.specs.Steps.Places.{table_at}
use Rattle.want.specs.Steps.Runs.{peer_in, Along}
use Rattle.want.proofs.EntryLaws.{Entered}
use Rattle.want.proofs.list.fill_blocks.Given as goal

abbrev pub invariant-loop-j : goal.invariant-loop-j
invariant-loop-j l =
    Entered (records (table_at (map (λ x. x.now) l.tables) 0)) (peer_in (map (λ x. x.now) l.tables) l.runs) l.file l.t l.first l.count l.at l.initial.out l.out l.next l.offset l.j × Along (map (λ x. x.now) l.tables) l.runs l.marks l.offset
