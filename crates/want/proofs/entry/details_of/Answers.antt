use mathlib.Core.List.{[], ◌∷◌}
use mathlib.Core.Path.{refl, ap, ◌∙◌}
use native.Mathlib.Omega.{arith}
use Rattle.std.specs.Prelude.{Err}
use Rattle.want.proofs.PlaceLaws.{element}
use Rattle.want.proofs.OutcomeLaws.{five_good}
use Rattle.want.proofs.DetailsLaws.{details_bad, details_none, details_found}
use Rattle.want.proofs.entry.details_of.Goals as goal

pub returns-then-not-all_good : goal.returns-then-not-all_good
returns-then-not-all_good c =
    ap Err c.at_start.ensures ∙ details_bad c.args.local.now (c.args.peer1.now ∷ c.args.peer2.now ∷ c.args.peer3.now ∷ c.args.peer4.now ∷ []) c.args.file c.args.block c.all_good.ensures c.if-not-all_good.true

pub numbered-requires : goal.numbered-requires
numbered-requires c = (let s = c.args in five_good s.local.now s.peer1.now s.peer2.now s.peer3.now s.peer4.now (λ i. (c.type_inv.local i).fits) (λ i. (c.type_inv.peer1 i).fits) (λ i. (c.type_inv.peer2 i).fits) (λ i. (c.type_inv.peer3 i).fits) (λ i. (c.type_inv.peer4 i).fits) c.all_good.ensures c.if-not-all_good.false)

pub returns-in_default : goal.returns-in_default
returns-in_default c =
    details_none c.args.local.now (c.args.peer1.now ∷ c.args.peer2.now ∷ c.args.peer3.now ∷ c.args.peer4.now ∷ []) c.args.file c.args.block c.all_good.ensures c.if-not-all_good.false c.numbered.ensures c.in_default.is

pub offset_bounds-tables-table : goal.offset_bounds-tables-table
offset_bounds-tables-table c = omega (arith, c.numbered.ensures.small _ _ c.in-Some.is)

pub bounds-tables-table : goal.bounds-tables-table
bounds-tables-table c = c.numbered.ensures.small _ _ c.in-Some.is

pub returns : goal.returns
returns c =
    let a = c.args in
    let n = c.numbered in
    details_found a.local.now (c.args.peer1.now ∷ c.args.peer2.now ∷ c.args.peer3.now ∷ c.args.peer4.now ∷ []) a.file a.block c.all_good.ensures c.if-not-all_good.false n.ensures c.in-Some.is
    (element (λ x. x.now) (a.local ∷ a.peer1 ∷ a.peer2 ∷ a.peer3 ∷ a.peer4 ∷ []) c.in-Some.table _ refl) c.by_fields.ensures
