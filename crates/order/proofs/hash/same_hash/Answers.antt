-- A length tells them apart, and else the numbers do.
use Prim.Native.Nat.{◌+◌, ◌≤◌}
use mathlib.Core.Path.{ap, sym, ◌∙◌}
use mathlib.Core.Logic.{inl, inr}
use native.Mathlib.Omega.{arith}
use lib.ListN.{length}
use Rattle.order.proofs.SameLaws.{differ}
use Rattle.order.proofs.HashLaws.{agree_turn, agree_ends}
use Rattle.order.proofs.hash.same_hash.Goals as goal
use Rattle.order.proofs.hash.same_hash.Goals.{then-eight_at, else-eight_at}

pub returns-then-b-ne32 : goal.returns-then-b-ne32
returns-then-b-ne32 c = differ _ _ (λ e. c.if-b-ne32.true (sym (ap length e) ∙ c.if-a-ne32.false))

pub loop-i-preserved : goal.loop-i-preserved
loop-i-preserved c =
    let w = c.loop-i.invariant in
    let h : c.loop-i.i + 8 ≤ length c.args.a.now = omega (arith, w.0, c.loop-i-test.true, c.if-a-ne32.false) in
    let g : c.loop-i.i + 8 ≤ length c.args.b.now = omega (arith, w.0, c.loop-i-test.true, c.if-b-ne32.false) in
    let turn = agree_turn w.2 (λ i. (c.type_inv.a i).fits) (λ i. (c.type_inv.b i).fits) h g c.eight_at.ensures c.eight_at-in-loop-i.ensures in (
      omega (arith, w.0),
      omega (arith, w.0, c.loop-i-test.true),
      elim c.if-eight_at.branch [ then-eight_at p ↦ turn (inl (p.if-eight_at.true, p.same-is)) | else-eight_at p ↦ turn (inr (p.if-eight_at.false, p.same-is)) ],
    )

pub returns : goal.returns
returns c = agree_ends c.loop-i.invariant.2 (omega (arith, c.loop-i-test.false, c.if-a-ne32.false)) (omega (arith, c.loop-i-test.false, c.if-b-ne32.false))
