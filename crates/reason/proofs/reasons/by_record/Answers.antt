-- Deleted, invalid, no such block, or by the block.
use Rattle.std.specs.Prelude.{Ok}
use mathlib.Core.Path.{sym, ap, ◌∙◌}
use mathlib.Core.List.{map}
use native.Mathlib.Omega.{arith}
use lib.ListN.{drop}
use Rattle.table.specs.Table.{records}
use Rattle.want.specs.Steps.Places.{table_at}
use Rattle.reason.proofs.WhyLaws.{block_inside, record_deleted, record_invalid, record_beyond, record_short, record_block}
use Rattle.reason.proofs.reasons.by_record.Goals as goal

pub returns-then-deleted : goal.returns-then-deleted
returns-then-deleted c at g gs w e m = ap Ok (record_deleted (records (table_at (map (λ x. x.now) c.args.tables) 0)) (map records (drop 1 (map (λ x. x.now) c.args.tables))) c.args.block w e (sym c.is_deleted-deleted.ensures ∙ c.if-deleted.true))

pub returns-then-invalid : goal.returns-then-invalid
returns-then-invalid c at g gs w e m = ap Ok (record_invalid (records (table_at (map (λ x. x.now) c.args.tables) 0)) (map records (drop 1 (map (λ x. x.now) c.args.tables))) c.args.block w e (sym c.is_deleted-deleted.ensures ∙ c.if-deleted.false) (sym c.is_invalid-invalid.ensures ∙ c.if-invalid.true))

pub returns-then-f-block : goal.returns-then-f-block
returns-then-f-block c at g gs w e m = ap Ok (record_beyond (records (table_at (map (λ x. x.now) c.args.tables) 0)) (map records (drop 1 (map (λ x. x.now) c.args.tables))) c.args.block w e (sym c.is_deleted-deleted.ensures ∙ c.if-deleted.false) (sym c.is_invalid-invalid.ensures ∙ c.if-invalid.false) c.if-f-block.true)

pub returns-in_default : goal.returns-in_default
returns-in_default c at g gs w e m = record_short (records (table_at (map (λ x. x.now) c.args.tables) 0)) (map records (drop 1 (map (λ x. x.now) c.args.tables))) c.args.block w e (sym c.is_deleted-deleted.ensures ∙ c.if-deleted.false) (sym c.is_invalid-invalid.ensures ∙ c.if-invalid.false) c.if-f-block.false (sym c.block_at.ensures ∙ c.in_default.is)

pub overflow_add-hash : goal.overflow_add-hash
overflow_add-hash c = omega (arith, block_inside c.args.t.now c.args.f.first c.args.block (sym c.block_at.ensures ∙ c.in-Some.is))

pub returns : goal.returns
returns c at g gs w e m =
    c.by_block.ensures
    ∙ ap Ok (record_block (records (table_at (map (λ x. x.now) c.args.tables) 0)) (map records (drop 1 (map (λ x. x.now) c.args.tables))) c.args.block w e (sym c.is_deleted-deleted.ensures ∙ c.if-deleted.false) (sym c.is_invalid-invalid.ensures ∙ c.if-invalid.false) c.if-f-block.false
    (sym c.block_at.ensures ∙ c.in-Some.is) m c.offset_of-offset.ensures c.part.ensures)
