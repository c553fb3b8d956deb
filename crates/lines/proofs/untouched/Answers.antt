-- All bytes are the fill.
use Rattle.std.proofs.Common.{◌∙◌, sym, rules}
use borrow.Author.Tests.{tests}
use Rattle.std.proofs.lemmas.Iterator.{YieldsList-from_slice}
use Rattle.std.proofs.lemmas.Iterator.Search.{all_from_yields_List}
use Rattle.lines.proofs.BufferLaws.{is_fill, fills}
use Rattle.lines.proofs.untouched.Goals as goal

pub returns : goal.returns
returns c =
    all_from_yields_List is_fill _ _ c.all.result c.all.ensures.ran (YieldsList-from_slice c.args.out.now cc) (λ x b q k. search (rules, tests)) ∙ sym (fills c.args.out.now)
