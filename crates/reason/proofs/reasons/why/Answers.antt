-- By the highest record of the name.
use Rattle.std.specs.Prelude.{Ok, Err}
use Prim.Native.Nat.{ℕ}
use mathlib.Core.Path.{refl, sym, ap, subst, ◌∙◌}
use mathlib.Core.List.{List, [], ◌∷◌, map}
use native.Mathlib.Omega.{arith}
use Rattle.table.specs.Table.{records}
use Rattle.table.specs.Steps.Standing.{At}
use Rattle.merge.specs.Merged.{merged_of}
use Rattle.want.proofs.PlaceLaws.{element}
use Rattle.want.proofs.OutcomeLaws.{five_good}
use Rattle.reason.proofs.LookupLaws.{lookup_name}
use Rattle.reason.proofs.WhyLaws.{why_bad, why_good, why_none, why_some}
use Rattle.reason.proofs.reasons.why.Goals as goal

pub returns-then-not-all_good : goal.returns-then-not-all_good
returns-then-not-all_good c =
    let s = c.args in
    ap Err c.at_start.ensures ∙ why_bad s.local.now (s.peer1.now ∷ s.peer2.now ∷ s.peer3.now ∷ s.peer4.now ∷ []) s.name.now s.block c.all_good.ensures c.if-not-all_good.true

pub highest-requires : goal.highest-requires
highest-requires c = (let s = c.args in five_good s.local.now s.peer1.now s.peer2.now s.peer3.now s.peer4.now (λ i. (c.type_inv.local i).fits) (λ i. (c.type_inv.peer1 i).fits) (λ i. (c.type_inv.peer2 i).fits) (λ i. (c.type_inv.peer3 i).fits) (λ i. (c.type_inv.peer4 i).fits) c.all_good.ensures c.if-not-all_good.false)

pub returns-in_default : goal.returns-in_default
returns-in_default c =
    let s = c.args in
    sym (why_good s.local.now (s.peer1.now ∷ s.peer2.now ∷ s.peer3.now ∷ s.peer4.now ∷ []) s.name.now s.block c.all_good.ensures c.if-not-all_good.false ∙ ap Ok (why_none _ _ (merged_of (map records (s.local.now ∷ s.peer1.now ∷ s.peer2.now ∷ s.peer3.now ∷ s.peer4.now ∷ []))) (c.highest.ensures.none c.in_default.is)))

pub offset_bounds-tables-best : goal.offset_bounds-tables-best
offset_bounds-tables-best c = omega (arith, (c.highest.ensures.some c.in-Some.best c.in-Some.is).small)

pub bounds-tables-best : goal.bounds-tables-best
bounds-tables-best c = (c.highest.ensures.some c.in-Some.best c.in-Some.is).small

pub by_record-requires : goal.by_record-requires
by_record-requires c = (let s = c.args in five_good s.local.now s.peer1.now s.peer2.now s.peer3.now s.peer4.now (λ i. (c.type_inv.local i).fits) (λ i. (c.type_inv.peer1 i).fits) (λ i. (c.type_inv.peer2 i).fits) (λ i. (c.type_inv.peer3 i).fits) (λ i. (c.type_inv.peer4 i).fits) c.all_good.ensures c.if-not-all_good.false)

pub returns : goal.returns
returns c =
    let s = c.args in
    let refs = s.local ∷ s.peer1 ∷ s.peer2 ∷ s.peer3 ∷ s.peer4 ∷ [] in
    let k = c.in-Some.best.table in
    let r = c.highest.ensures.some c.in-Some.best c.in-Some.is in
    let w = r.stood in
    c.by_record.ensures _ w.head w.tail (subst (λ (t : List ℕ). At t w.place (w.head ∷ w.tail)) (sym (element (λ x. x.now) refs k _ refl)) w.here) w.fields_are (lookup_name _ (merged_of (map records (s.local.now ∷ s.peer1.now ∷ s.peer2.now ∷ s.peer3.now ∷ s.peer4.now ∷ []))) r.is)
    ∙ sym (why_good s.local.now (s.peer1.now ∷ s.peer2.now ∷ s.peer3.now ∷ s.peer4.now ∷ []) s.name.now s.block c.all_good.ensures c.if-not-all_good.false ∙ ap Ok (why_some _ _ (merged_of (map records (s.local.now ∷ s.peer1.now ∷ s.peer2.now ∷ s.peer3.now ∷ s.peer4.now ∷ []))) r.is))
