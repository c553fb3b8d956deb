use Rattle.want.proofs.FieldLaws.{fields_read}
use Rattle.want.proofs.fields.fields_at.Goals as goal

pub returns : goal.returns
returns c =
    let s = c.args in
    fields_read s.t.now s.at c.word_at-n.ensures c.word_at-blocks.ensures c.word_at.ensures c.eight_at.ensures c.word_at-2.ensures
