-- The loop's invariant: what is asked of the whole is what is asked of the rest.
use Rattle.std.proofs.Common.{rules}
use mathlib.Core.Path.{refl, sym, ◌∙◌}
use native.Mathlib.Omega.{arith}
use Rattle.xdr.proofs.TextRule.{end_whole}
use Rattle.xdr.proofs.text.sound_up_to.Goals as goal

pub loop-i-init : goal.loop-i-init
loop-i-init c = c.past_eights-i.ensures

pub returns-then-n-eq0 : goal.returns-then-n-eq0
returns-then-n-eq0 c = sym (c.loop-i.invariant.1 ∙ c.step_at-n.ensures.broken c.if-n-eq0.true)

pub overflow_add-i : goal.overflow_add-i
overflow_add-i c = omega (arith, (c.step_at-n.ensures.whole c.if-n-eq0.false).within)

pub loop-i-smaller : goal.loop-i-smaller
loop-i-smaller c = omega (arith, (c.step_at-n.ensures.whole c.if-n-eq0.false).within, c.if-n-eq0.false)

pub loop-i-preserved : goal.loop-i-preserved
loop-i-preserved c = ((c.step_at-n.ensures.whole c.if-n-eq0.false).within, c.loop-i.invariant.1 ∙ (c.step_at-n.ensures.whole c.if-n-eq0.false).on)

pub returns : goal.returns
returns c = sym (c.loop-i.invariant.1 ∙ end_whole c.args.s.now c.loop-i.i c.loop-i.i 0 (search rules) refl)
