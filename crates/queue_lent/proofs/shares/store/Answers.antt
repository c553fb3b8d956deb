-- The link is laid out in the peer's share.
use Prim.Native.Nat.{ℕ}
use mathlib.Core.List.{List}
use Rattle.queue.proofs.ShareLaws.{share_lent}
use Rattle.queue_lent.specs.Words.{link_size, link_words}
use Rattle.queue_lent.proofs.shares.store.Goals as goal

pub returns : goal.returns
returns c =
    let a = c.args in
    share_lent link_size a.words.now a.peer (λ (l : List ℕ). link_words a.link) c.lay_out.ensures
