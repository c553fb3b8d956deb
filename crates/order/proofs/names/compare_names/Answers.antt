-- Eight bytes of each decide, or as many more are the same.
use Prim.Native.Nat.{◌+◌, ◌-◌}
use native.Mathlib.Omega.{arith}
use Rattle.order.proofs.NameLaws.{take_fewer, eight_more, eight_decide}
use Rattle.order.proofs.names.compare_names.Goals as goal
use Rattle.order.proofs.names.compare_names.Goals.{else-loop-i-test, then-loop-i-test+else-x-y+else-i-end-i-gt8}

pub returns-then-x-y : goal.returns-then-x-y
returns-then-x-y c =
    eight_decide c.args.a.now c.args.b.now c.loop-i.i (λ i. (c.type_inv.a i).fits) (λ i. (c.type_inv.b i).fits)
    (omega (arith, c.min-n.ensures, c.loop-i-test.true)) (omega (arith, c.min-n.ensures, c.loop-i-test.true))
    c.eight_at-x.ensures c.eight_at-y.ensures c.loop-i.invariant c.compare_numbers.ensures c.if-x-y.true

pub loop-i-preserved : goal.loop-i-preserved
loop-i-preserved c =
    eight_more c.args.a.now c.args.b.now c.loop-i.i (λ i. (c.type_inv.a i).fits) (λ i. (c.type_inv.b i).fits)
    (omega (arith, c.min-n.ensures, c.loop-i-test.true)) (omega (arith, c.min-n.ensures, c.loop-i-test.true))
    c.eight_at-x.ensures c.eight_at-y.ensures c.loop-i.invariant c.if-x-y.false

pub compare_last-requires-clause-a_value : goal.compare_last-requires-clause-a_value
compare_last-requires-clause-a_value c =
    elim c.loop-i-test.branch [
      | else-loop-i-test w ↦ take_fewer c.args.a.now c.args.b.now c.loop-i.i (c.min-n.result - 8) c.loop-i.invariant w.loop-i-test.false
      | then-loop-i-test+else-x-y+else-i-end-i-gt8 w ↦
          take_fewer c.args.a.now c.args.b.now (c.loop-i.i + 8) (c.min-n.result - 8)
          (eight_more c.args.a.now c.args.b.now c.loop-i.i (λ i. (c.type_inv.a i).fits) (λ i. (c.type_inv.b i).fits)
          (omega (arith, c.min-n.ensures, w.loop-i-test.true)) (omega (arith, c.min-n.ensures, w.loop-i-test.true))
          w.eight_at-x.ensures w.eight_at-y.ensures c.loop-i.invariant w.if-x-y.false)
          (omega arith)
    ]
