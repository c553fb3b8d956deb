-- Eight bytes at a time.
use Prim.Native.Nat.{ℕ, ◌*◌, ◌+◌, ◌/◌}
use mathlib.Core.Path.{◌≡◌, refl, ap, ◌∙◌}
use native.Mathlib.Omega.{arith}
use lib.ListN.{length}
use Rattle.xdr.specs.Steps.{sound_after}
use Rattle.xdr.specs.Text.{sound_up_to}
use Rattle.xdr.proofs.text.past_eights.Goals as goal

pub loop-i-init : goal.loop-i-init
unfolding sound_up_to
loop-i-init c = refl

pub returns-then-not-plain_eight_at : goal.returns-then-not-plain_eight_at
returns-then-not-plain_eight_at c = (omega arith, c.loop-i.invariant)

pub loop-i-preserved : goal.loop-i-preserved
loop-i-preserved c =
    let next : 8 * c.loop-i.i + 8 ≡ 8 * (c.loop-i.i + 1) = omega arith in
    let eight = c.plain_eight_at.ensures c.if-not-plain_eight_at.false in
    c.loop-i.invariant ∙ eight.on ∙ ap (sound_after c.args.s.now) next

pub returns : goal.returns
returns c =
    let end : c.loop-i.i ≡ length c.args.s.now / 8 = omega arith in
    (omega arith, c.loop-i.invariant ∙ ap (λ (i : ℕ). sound_after c.args.s.now (8 * i)) end)
