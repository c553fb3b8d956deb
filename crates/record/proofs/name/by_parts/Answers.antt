-- The loop's invariant: what is asked of the whole is what is left to ask.
use Rattle.std.proofs.Common.{sym, ◌∙◌, arith}
use Rattle.record.proofs.PathSteps.{gone_none, gone_zero, gone_broken, gone_part, gone_byte, gone_all}
use Rattle.record.proofs.name.by_parts.Goals.{then-b-le47+else-b-eq0+then-b-eq47+else-not-is_part, then-b-le47+else-b-eq0+else-b-eq47, else-b-le47}
use Rattle.record.proofs.name.by_parts.Goals as goal

pub loop-i-init : goal.loop-i-init
loop-i-init c = gone_none c.args.s.now

pub returns-then-b-eq0 : goal.returns-then-b-eq0
returns-then-b-eq0 c = sym (gone_zero c.loop-i.invariant c.loop-i-test.true c.if-b-eq0.true)

pub returns-then-not-is_part : goal.returns-then-not-is_part
returns-then-not-is_part c =
    sym (gone_broken c.loop-i.invariant c.loop-i-test.true c.if-b-eq47.true (sym c.is_part.ensures ∙ c.if-not-is_part.true))

pub loop-i-preserved : goal.loop-i-preserved
loop-i-preserved c =
    let g = c.loop-i.invariant in
    elim c.if-b-le47.branch [
      | then-b-le47+else-b-eq0+then-b-eq47+else-not-is_part w ↦ gone_part g c.loop-i-test.true w.if-b-eq47.true (sym w.is_part.ensures ∙ w.if-not-is_part.false) w.start-is
      | then-b-le47+else-b-eq0+else-b-eq47 w ↦ gone_byte g c.loop-i-test.true w.if-b-eq47.false w.if-b-eq0.false w.start-is
      | else-b-le47 w ↦ gone_byte g c.loop-i-test.true (λ e. omega (arith, w.if-b-le47.false)) (λ e. omega (arith, w.if-b-le47.false)) w.start-is
    ]

pub returns : goal.returns
returns c = c.is_part-2.ensures ∙ sym (gone_all c.loop-i.invariant c.loop-i-test.false)
