-- F0 and its followers.
use mathlib.Core.Path.{sym, ◌∙◌}
use native.Mathlib.Omega.{arith}
use borrow.Author.Tests.{eqb-true, lt-leb}
use Rattle.xdr.proofs.TextRule.{no_promise, four_whole}
use Rattle.xdr.proofs.text.four_at.Goals as goal
use Rattle.xdr.proofs.text.four_at.Goals.{then-s-at-ge4, else-s-at-ge4, then-s-at, else-s-at, then-is_within, else-is_within}

pub returns-then-is_within-2 : goal.returns-then-is_within-2
returns-then-is_within-2 c = λ e.
    elim c.if-is_within.branch [
      | then-is_within w ↦
          elim c.if-s-at.branch [
            | then-s-at v ↦
                elim c.if-s-at-ge4.branch [
                  | then-s-at-ge4 u ↦ four_whole c.args.s.now c.args.at (omega arith) (eqb-true _ 240 (sym u.value-is ∙ v.if-s-at.true))
                      (sym v.is_within.ensures ∙ sym v.value-is ∙ w.if-is_within.true) (sym w.is_within-then-is_within.ensures ∙ sym w.value-is ∙ c.if-is_within-2.true)
                      (sym c.is_within-then-is_within-2.ensures ∙ e)
                  | else-s-at-ge4 u ↦ no_promise (sym (lt-leb 4 _ u.if-s-at-ge4.false) ∙ sym u.value-is ∙ v.if-s-at.true)
                ]
            | else-s-at v ↦ no_promise (sym v.if-s-at.false ∙ sym v.value-is ∙ w.if-is_within.true)
          ]
      | else-is_within w ↦ no_promise (sym w.if-is_within.false ∙ sym w.value-is ∙ c.if-is_within-2.true)
    ]
