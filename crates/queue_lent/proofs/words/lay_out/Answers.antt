-- By how its entries are stored.
use Rattle.std.proofs.Common.{rules}
use mathlib.Core.Path.{◌∙◌}
use lib.ListN.{length-set}
use Rattle.link.proofs.OwnedArray.{unmapped}
use Rattle.queue_lent.proofs.WordLaws.{packed}
use Rattle.queue_lent.proofs.words.lay_out.Goals as goal

pub shape_of-words : goal.shape_of-words
shape_of-words c = c.put_entries.auto.words ∙ simp length-set

pub returns : goal.returns
returns c =
    c.put_entries.ensures ∙ packed c.args.words.now c.args.link c.requires (search (rules, unmapped))
