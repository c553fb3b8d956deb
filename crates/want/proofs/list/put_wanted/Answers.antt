use Rattle.want.proofs.EntryLaws.{wanted_put}
use Rattle.want.proofs.list.put_wanted.Goals as goal

pub returns : goal.returns
returns c = wanted_put c.args.w c.args.out.now c.args.at c.requires c.put_word.ensures.1 c.put_word-2.ensures.1 c.put_hyper.ensures.1 c.put_word-3.ensures.1 c.put_word-4.ensures.1
