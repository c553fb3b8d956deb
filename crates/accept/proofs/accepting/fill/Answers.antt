use Rattle.merge.proofs.PutLaws.{table_put}
use Rattle.accept.proofs.accepting.fill.Goals as goal

pub returns : goal.returns
returns c =
    let s = c.args in
    let n = c.note_records-size in
    table_put s.s.now s.old.now n.new.notes n.result s.out.now n.ensures c.put_table.ensures
