-- Eight more bytes are smooth.
use Rattle.std.proofs.Common.{◌≡◌, ◌+◌, ◌-◌, ◌*◌, ◌/◌, length, subst, arith, rules}
use Rattle.record.specs.Steps.{Smooth}
use Rattle.record.proofs.SmoothLaws.{smooth_none, smooth_on}
use Rattle.record.proofs.name.past_eights.Goals as goal

pub loop-i-init : goal.loop-i-init
loop-i-init c = (omega arith, omega arith, smooth_none c.args.s.now)

pub loop-i-preserved : goal.loop-i-preserved
loop-i-preserved c =
    (omega arith, omega arith, smooth_on c.args.s.now c.loop-i.i (c.loop-i.i + 9) (search rules) (search rules) c.loop-i.i (c.loop-i.i + 8) (search rules) (search rules) c.loop-i.invariant.2 (c.is_smooth.ensures c.if-not-is_smooth.false))

pub returns-else-not-is_smooth : goal.returns-else-not-is_smooth
returns-else-not-is_smooth c =
    let e : c.loop-i.i + 8 ≡ (length c.args.s.now - 1) / 8 * 8 = omega (arith, c.loop-i.invariant.0, c.loop-i.invariant.1) in
    let more : Smooth c.args.s.now (c.loop-i.i + 8) = smooth_on c.args.s.now c.loop-i.i (c.loop-i.i + 9) (search rules) (search rules) c.loop-i.i (c.loop-i.i + 8) (search rules) (search rules) c.loop-i.invariant.2 (c.is_smooth.ensures c.if-not-is_smooth.false) in
    (omega arith, subst (Smooth c.args.s.now) e more)
