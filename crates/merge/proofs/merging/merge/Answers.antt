use Rattle.std.proofs.Common.{rules}
use mathlib.Core.Path.{sym, ◌∙◌}
use Rattle.xdr.proofs.FillingLaws.{fills_refused, fills_same}
use Rattle.merge.proofs.AnswerLaws.{first_bad_lem, second_bad, both_good}
use Rattle.merge.proofs.PutLaws.{table_put}
use Rattle.merge.proofs.merging.merge.Goals as goal

pub returns-then-not-is_good : goal.returns-then-not-is_good
returns-then-not-is_good c =
    let s = c.args in
    fills_refused s.out.now (first_bad_lem s.a.now s.b.now (sym c.is_good.ensures ∙ c.if-not-is_good.true)) c.refused.ensures

pub returns-then-not-is_good-2 : goal.returns-then-not-is_good-2
returns-then-not-is_good-2 c =
    let s = c.args in
    fills_refused s.out.now
    (second_bad s.a.now s.b.now (sym c.is_good.ensures ∙ c.if-not-is_good.false) (sym c.is_good-2.ensures ∙ c.if-not-is_good-2.true)) c.refused-then-not-is_good-2.ensures

pub note_records-size-requires : goal.note_records-size-requires
note_records-size-requires c = ((sym c.is_good.ensures ∙ c.if-not-is_good.false), (sym c.is_good-2.ensures ∙ c.if-not-is_good-2.false), search rules)

pub returns : goal.returns
returns c =
    let s = c.args in
    let n = c.note_records-size in
    fills_same s.out.now (both_good s.a.now s.b.now (sym c.is_good.ensures ∙ c.if-not-is_good.false) (sym c.is_good-2.ensures ∙ c.if-not-is_good-2.false))
    (table_put s.a.now s.b.now n.new.notes n.result s.out.now n.ensures c.put_table.ensures)
