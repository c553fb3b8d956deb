-- By the call on the peer's share.
use Prim.Native.Nat.{ℕ}
use mathlib.Core.List.{List}
use mathlib.Core.Path.{ap, ◌∙◌}
use Rattle.link.specs.Hashes.{hashes_released, arrival_of}
use Rattle.queue.specs.Queue.{hash_bytes}
use Rattle.queue.proofs.ShareLaws.{share_is, share_lent}
use Rattle.queue.proofs.hashes.settle_in.Goals as goal

pub returns : goal.returns
returns c =
    let a = c.args in (
      c.settle.ensures.0 ∙ ap (λ (l : List ℕ). arrival_of l a.message.now a.release) (share_is hash_bytes a.hashes.now a.peer),
      share_lent hash_bytes a.hashes.now a.peer (λ (l : List ℕ). hashes_released l a.release) c.settle.ensures.1,
    )
