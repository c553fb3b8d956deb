-- By the call on the peer's share.
use Prim.Native.Nat.{ℕ}
use mathlib.Core.List.{List}
use Rattle.link.specs.Steps.{hashes_filled}
use Rattle.queue.specs.Queue.{hash_bytes}
use Rattle.queue.proofs.ShareLaws.{share_lent}
use Rattle.queue.proofs.hashes.keep_in.Goals as goal

pub returns : goal.returns
returns c =
    let a = c.args in
    share_lent hash_bytes a.hashes.now a.peer (λ (l : List ℕ). hashes_filled l a.slot a.hash.now a.filling) c.keep.ensures
