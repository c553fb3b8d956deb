use Rattle.want.proofs.FieldLaws.{word_there, word_cut}
use Rattle.want.proofs.fields.word_at.Goals as goal

pub returns-in_default : goal.returns-in_default
returns-in_default c = word_cut c.args.s.now c.args.p c.read_word.ensures c.requires c.in_default.is

pub returns : goal.returns
returns c = word_there c.args.s.now c.args.p c.read_word.ensures c.in-Ok.is
