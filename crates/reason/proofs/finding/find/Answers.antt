use mathlib.Core.Path.{sym, ap, ◌∙◌}
use mathlib.Core.List.{List}
use Prim.Native.Nat.{ℕ}
use native.Mathlib.Omega.{arith}
use Rattle.order.specs.Order.{is_equal, compare_lists}
use Rattle.reason.proofs.FindLaws.{seek_starts, seek_ends, seek_found, seek_on, seek_grows}
use Rattle.reason.proofs.finding.find.Goals as goal

pub loop-f-init : goal.loop-f-init
loop-f-init c = seek_starts c.args.table.now c.args.name.now (λ i. (c.type_inv.table i).fits) c.requires

pub returns : goal.returns
returns c = seek_ends c.loop-f.invariant c.outline_at.ensures c.in_default.is

pub returns-then-is_eq : goal.returns-then-is_eq
returns-then-is_eq c =
    seek_found c.loop-f.invariant c.outline_at.ensures c.in-Some.is
    (ap (λ (l : List ℕ). is_equal (compare_lists l c.args.name.now)) (sym c.part.ensures) ∙ ap is_equal (sym c.compare_bytes.ensures) ∙ sym c.is_eq.ensures ∙ c.if-is_eq.true)

pub loop-f-smaller : goal.loop-f-smaller
loop-f-smaller c = let g = seek_grows c.loop-f.invariant c.outline_at.ensures c.in-Some.is in omega (arith, g.0, g.1)

pub loop-f-preserved : goal.loop-f-preserved
loop-f-preserved c =
    seek_on c.loop-f.invariant c.outline_at.ensures c.in-Some.is
    (ap (λ (l : List ℕ). is_equal (compare_lists l c.args.name.now)) (sym c.part.ensures) ∙ ap is_equal (sym c.compare_bytes.ensures) ∙ sym c.is_eq.ensures ∙ c.if-is_eq.false)
