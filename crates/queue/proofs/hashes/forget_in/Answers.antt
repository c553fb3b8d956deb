-- By the zeros in the peer's share.
use Prim.Native.Nat.{ℕ, ◌+◌, ◌-◌, ◌*◌}
use mathlib.Core.List.{List}
use mathlib.Core.Path.{◌≡◌, ap, ◌∙◌}
use native.Mathlib.Omega.{arith}
use lib.ListN.{length, take, drop, replicate, length-drop}
use lib.Seq.{length-take-le}
use Rattle.link.specs.Hashes.{no_hashes}
use Rattle.queue.specs.Queue.{hash_bytes}
use Rattle.queue.proofs.ShareLaws.{share_lent}
use Rattle.queue.proofs.hashes.forget_in.Goals as goal

pub returns : goal.returns
returns c =
    let hs : List ℕ = c.args.hashes.now in
    let at : ℕ = (c.args.peer - 1) * 512 in
    let long : length (take (at + 512 - at) (drop at hs)) ≡ 512 = length-take-le (at + 512 - at) (drop at hs) (omega (arith, length-drop at hs)) ∙ omega arith in
    share_lent hash_bytes hs c.args.peer (λ (l : List ℕ). no_hashes) (c.fill.ensures.after (λ y e. e) ∙ ap (λ (n : ℕ). replicate n 0) long)
