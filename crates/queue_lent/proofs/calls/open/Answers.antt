-- The queue that is opened is laid out.
use Rattle.std.proofs.Common.{rules}
use Rattle.link.proofs.OwnedArray.{unmapped}
use Rattle.queue_lent.proofs.LentLaws.{opened}
use Rattle.queue_lent.proofs.calls.open.Goals as goal

pub returns : goal.returns
returns c =
    let a = c.args in
    opened a.windows (search (rules, unmapped)) a.words.now (search rules) c.open-opened.ensures c.store_all.ensures
