-- The last eight bytes decide, and else the lengths do.
use Prim.Native.Nat.{ℕ, ◌+◌, ◌-◌}
use mathlib.Core.Path.{◌≡◌, sym, subst, ◌∙◌}
use native.Mathlib.Omega.{arith}
use lib.ListN.{take}
use Rattle.order.proofs.OrderLaws.{as_cmp}
use Rattle.order.proofs.NameLaws.{eight_more, eight_decide, lengths_decide}
use Rattle.order.proofs.names.compare_last.Goals as goal

pub returns-then-x-y : goal.returns-then-x-y
returns-then-x-y c =
    eight_decide c.args.a.now c.args.b.now (c.args.n - 8) (λ i. (c.type_inv.a i).fits) (λ i. (c.type_inv.b i).fits)
    (omega (arith, c.requires.shorter.first, c.requires.le_n)) (omega (arith, c.requires.shorter.second, c.requires.le_n))
    c.eight_at-x.ensures c.eight_at-y.ensures c.requires.a_value c.compare_numbers.ensures c.if-x-y.true

pub returns : goal.returns
returns c =
    let n : c.args.n - 8 + 8 ≡ c.args.n = omega (arith, c.requires.le_n) in
    let same : take c.args.n c.args.a.now ≡ take c.args.n c.args.b.now =
    subst (λ (m : ℕ). take m c.args.a.now ≡ take m c.args.b.now) n
    (eight_more c.args.a.now c.args.b.now (c.args.n - 8) (λ i. (c.type_inv.a i).fits) (λ i. (c.type_inv.b i).fits)
    (omega (arith, c.requires.shorter.first, c.requires.le_n)) (omega (arith, c.requires.shorter.second, c.requires.le_n))
    c.eight_at-x.ensures c.eight_at-y.ensures c.requires.a_value c.if-x-y.false) in
    as_cmp _ _ _ c.cmp.ensures ∙ sym (lengths_decide c.args.a.now c.args.b.now c.args.n c.requires.shorter same)
