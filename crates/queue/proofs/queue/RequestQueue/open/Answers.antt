-- By the windows.
use mathlib.Core.Path.{◌≡◌, sym, ◌∙◌}
use lib.ListN.{length}
use borrow.Author.Rules.{rules}
use Rattle.link.proofs.OwnedArray.{unmapped}
use Rattle.queue.proofs.QueueLaws.{open_refused, open_made}
use Rattle.queue.proofs.queue.RequestQueue.open.Goals as goal

pub returns-then-not-all_fit : goal.returns-then-not-all_fit
returns-then-not-all_fit c = open_refused c.args.windows (sym c.all_fit.ensures ∙ c.if-not-all_fit.true) c.empty.ensures c.at_start.ensures

pub returns : goal.returns
returns c =
    let long : length c.args.windows ≡ 4 = search (rules, unmapped) in
    open_made _ c.args.windows long (sym c.all_fit.ensures ∙ c.if-not-all_fit.false)
    c.size.ensures c.empty-2.ensures c.size-2.ensures c.empty-3.ensures c.size-3.ensures c.empty-4.ensures c.size-4.ensures c.empty-5.ensures
