-- By what was read: a refusal is handed on, and a Request is served or gets its reply.
use mathlib.Core.Path.{refl, sym, ap, ◌∙◌}
use Rattle.std.specs.Prelude.{Err}
use Rattle.xdr.proofs.Answered.{handed_on}
use Rattle.xdr.proofs.FillingLaws.{fills_refused}
use Rattle.serve.proofs.RulingLaws.{served_so, filled_in, handed, ruled, table_bad, table_good, ours_served, ours_not}
use Rattle.serve.proofs.ruling.serve.Goals as goal

pub returns-then-not-is_good : goal.returns-then-not-is_good
returns-then-not-is_good c =
    let s = c.args in
    ruled s.table.now s.repository.now s.message.now s.out.now
    (table_bad s.table.now s.repository.now s.message.now s.out.now (sym c.is_good.ensures ∙ c.if-not-is_good.true))
    (filled_in (fills_refused s.out.now refl (ap Err c.at_start.ensures)) refl)

pub returns-in_err-asked : goal.returns-in_err-asked
returns-in_err-asked c =
    let s = c.args in
    handed (handed_on c.from_residual.result c.from_residual.ensures.1)
    (ruled s.table.now s.repository.now s.message.now s.out.now
    (table_good s.table.now s.repository.now s.message.now s.out.now (sym c.is_good.ensures ∙ c.if-not-is_good.false) c.read.ensures c.request_in.ensures c.in_err-asked.was)
    (filled_in (fills_refused s.out.now refl refl) refl))

pub is_ours-requires : goal.is_ours-requires
is_ours-requires c = sym c.is_good.ensures ∙ c.if-not-is_good.false

pub returns-then-is_ours : goal.returns-then-is_ours
returns-then-is_ours c =
    let s = c.args in
    ruled s.table.now s.repository.now s.message.now s.out.now
    (table_good s.table.now s.repository.now s.message.now s.out.now (sym c.is_good.ensures ∙ c.if-not-is_good.false) c.read.ensures c.request_in.ensures c.in_ok-asked.was
    ∙ ours_served s.table.now s.repository.now s.message.now s.out.now c.in_ok-asked.asked c.is_ours.ensures c.if-is_ours.true)
    (served_so s.out.now _ _ _)

pub returns-in_err-n : goal.returns-in_err-n
returns-in_err-n c =
    let s = c.args in
    handed (handed_on c.from_residual-in_err-n.result c.from_residual-in_err-n.ensures.1)
    (ruled s.table.now s.repository.now s.message.now s.out.now
    (table_good s.table.now s.repository.now s.message.now s.out.now (sym c.is_good.ensures ∙ c.if-not-is_good.false) c.read.ensures c.request_in.ensures c.in_ok-asked.was
    ∙ ours_not s.table.now s.repository.now s.message.now s.out.now c.in_ok-asked.asked c.is_ours.ensures c.if-is_ours.false)
    (filled_in c.write_response.ensures c.in_err-n.was))

pub returns : goal.returns
returns c =
    let s = c.args in
    ruled s.table.now s.repository.now s.message.now s.out.now
    (table_good s.table.now s.repository.now s.message.now s.out.now (sym c.is_good.ensures ∙ c.if-not-is_good.false) c.read.ensures c.request_in.ensures c.in_ok-asked.was
    ∙ ours_not s.table.now s.repository.now s.message.now s.out.now c.in_ok-asked.asked c.is_ours.ensures c.if-is_ours.false)
    (filled_in c.write_response.ensures c.in_ok-n.was)
