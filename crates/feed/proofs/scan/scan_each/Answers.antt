use native.Mathlib.Omega.{arith}
use Rattle.feed.proofs.TextLaws.{scanning_none, scanning_more, scanning_all}
use Rattle.feed.proofs.scan.scan_each.Goals as goal

pub loop-b-init : goal.loop-b-init
loop-b-init c = (scanning_none c.args.rule c.args.scan c.args.i c.args.part.now, omega arith)

pub overflow_add-at : goal.overflow_add-at
overflow_add-at c = omega (arith, c.requires, c.loop-b.invariant.1, c.loop-b-test.true)

pub loop-b-preserved : goal.loop-b-preserved
loop-b-preserved c = (
  scanning_more c.loop-b.invariant.0 c.loop-b-test.true c.scan_after-q.result (rw (← c.loop-b.invariant.1) c.scan_after-q.ensures),
  omega (arith, c.loop-b.invariant.1),
)

pub returns : goal.returns
returns c = scanning_all c.loop-b.invariant.0 c.loop-b-test.false
