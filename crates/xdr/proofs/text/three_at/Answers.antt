-- A lead of three and its followers.
use mathlib.Core.Path.{sym, ◌∙◌}
use Rattle.xdr.proofs.TextRule.{no_promise, three_whole}
use Rattle.xdr.proofs.text.three_at.Goals as goal
use Rattle.xdr.proofs.text.three_at.Goals.{then-is_within, else-is_within}

pub returns-then-is_within-2 : goal.returns-then-is_within-2
returns-then-is_within-2 c = λ e.
    elim c.if-is_within.branch [
      | then-is_within w ↦ three_whole c.args.s.now c.args.at c.requires (sym c.is_within.ensures ∙ w.if-is_within.true)
          (sym w.is_within-then-is_within.ensures ∙ sym w.value-is ∙ c.if-is_within-2.true) (sym c.is_within-then-is_within-2.ensures ∙ e)
      | else-is_within w ↦ no_promise (sym w.if-is_within.false ∙ sym w.value-is ∙ c.if-is_within-2.true)
    ]
