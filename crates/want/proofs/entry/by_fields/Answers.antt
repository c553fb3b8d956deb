use mathlib.Core.Path.{sym, ◌∙◌}
use Rattle.want.proofs.BlockNumberLaws.{by_beyond, by_short, by_whole}
use Rattle.want.proofs.entry.by_fields.Goals as goal

pub returns-then-f-block : goal.returns-then-f-block
returns-then-f-block c = let a = c.args in by_beyond a.t.now a.table a.block a.f c.if-f-block.true

pub returns-in_err-b : goal.returns-in_err-b
returns-in_err-b c =
    let a = c.args in
    c.from_residual.ensures ∙ by_short a.t.now a.table a.block a.f c.if-f-block.false (sym c.block_at.ensures ∙ c.in_err-b.was)

pub returns : goal.returns
returns c =
    let a = c.args in
    by_whole a.t.now a.table a.block a.f c.if-f-block.false (sym c.block_at.ensures ∙ c.in_ok-b.was) c.offset_of.ensures
