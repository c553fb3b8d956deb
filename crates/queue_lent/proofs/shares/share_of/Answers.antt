-- The part from the peer's place on.
use Prim.Native.Nat.{ℕ, ◌+◌, ◌-◌, ◌*◌}
use native.Mathlib.Omega.{arith}
use mathlib.Core.Path.{◌≡◌, ap, ◌∙◌}
use mathlib.Core.List.{List}
use lib.ListN.{length, take, drop}
use Rattle.queue.proofs.ShareLaws.{share_is, share_length}
use Rattle.queue_lent.specs.Words.{link_size}
use Rattle.queue_lent.proofs.shares.share_of.Goals as goal

pub returns : goal.returns
returns c =
    let ws : List ℕ = c.args.words.now in
    let at : ℕ = (c.args.peer - 1) * 35 in
    let whole : at + 35 - at ≡ 35 = omega arith in
    (share_is link_size ws c.args.peer, ap (λ (k : ℕ). length (take k (drop at ws))) whole ∙ share_length 35 at ws (omega (arith, c.requires)))
