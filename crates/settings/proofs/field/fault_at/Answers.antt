-- Cut short, out of order, and then the contents.
use Prim.Native.Nat.{◌+◌}
use mathlib.Core.Path.{sym, ap, ◌∙◌}
use native.Mathlib.Omega.{arith}
use borrow.Author.Tests.{leb-true, leb-false}
use lib.ListN.{drop, get_or, length-drop}
use Rattle.settings.specs.Field.{wrong}
use Rattle.settings.specs.Steps.{unless_0}
use Rattle.settings.proofs.FieldLaws.{fault_cut, fault_order, fault_contents, contents_part}
use Rattle.settings.proofs.field.fault_at.Goals as goal

pub returns-then-s-at-lt3 : goal.returns-then-s-at-lt3
returns-then-s-at-lt3 c = ap unless_0 (fault_cut c.args.least _ (drop (c.args.at + 1) c.args.s.now) (simp length-drop (omega arith)))

pub returns-then-s-start : goal.returns-then-s-start
returns-then-s-start c =
    ap unless_0 (fault_cut c.args.least _ (drop (c.args.at + 1) c.args.s.now) (simp length-drop (omega (arith, c.size_at-n.ensures))))

pub returns-then-not-in_order : goal.returns-then-not-in_order
returns-then-not-in_order c =
    ap unless_0
    (fault_order c.args.least _ (drop (c.args.at + 1) c.args.s.now) (simp length-drop (omega (arith, c.size_at-n.ensures))) (leb-false _ _ (sym c.in_order.ensures ∙ c.if-not-in_order.true)))

pub returns : goal.returns
returns c =
    let s = c.args.s.now in
    let size = c.size_at-n.ensures in
    c.wrong.ensures
    ∙ ap unless_0
    (ap (wrong (get_or s c.args.at 0)) (contents_part s c.args.at _ size)
    ∙ fault_contents c.args.least _ (drop (c.args.at + 1) s) (simp length-drop (omega (arith, size))) (leb-true _ _ (sym c.in_order.ensures ∙ c.if-not-in_order.false)))
