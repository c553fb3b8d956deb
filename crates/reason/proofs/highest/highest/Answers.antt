-- From the last table on, each compared with the best after it.
use Prim.Native.Nat.{ℕ, ◌+◌, ◌-◌, ◌<◌}
use mathlib.Core.Path.{◌≡◌, refl, ap, subst, ◌∙◌}
use mathlib.Core.List.{List, map}
use native.Mathlib.Omega.{arith}
use Rattle.table.specs.Table.{is_good, records}
use Rattle.table.specs.Steps.Standing.{At}
use Rattle.want.specs.Steps.Places.{table_at}
use Rattle.want.proofs.PlaceLaws.{element}
use Rattle.reason.specs.Steps.{named_from, lookup, BestOf}
use Rattle.reason.proofs.BestLaws.{named_head, merged_from, best_starts, best_more}
use Rattle.reason.proofs.highest.highest.Goals as goal

pub loop-k-init : goal.loop-k-init
loop-k-init c = best_starts c.requires c.args.name.now

pub find-requires : goal.find-requires
find-requires c =
    let k = c.loop-k.k - 1 in
    ap is_good (element (λ x. x.now) c.args.tables k _ refl) ∙ c.requires.good k (omega (arith, c.loop-k.auto.k, c.loop-k-test.true))

pub better-best-requires-clause-best_small : goal.better-best-requires-clause-best_small
better-best-requires-clause-best_small c b e = (c.loop-k.invariant.some b e).small

pub loop-k-preserved : goal.loop-k-preserved
loop-k-preserved c =
    let k = c.loop-k.k - 1 in
    let a = c.args in
    let ts = map (λ x. x.now) a.tables in
    let small : k < 5 = omega (arith, c.loop-k.auto.k, c.loop-k-test.true) in
    let next : c.loop-k.k ≡ k + 1 = omega (arith, c.loop-k-test.true) in
    let there : At (table_at ts k) c.find.result (named_from a.name.now (records (table_at ts k))) =
    subst (λ (t : List ℕ). At t c.find.result (named_from a.name.now (records t))) (element (λ x. x.now) a.tables k _ refl) c.find.ensures in
    best_more c.requires a.name.now k small (c.better-best.ensures _ _ (named_head (table_at ts k) a.name.now there)
    (subst (λ (i : ℕ). BestOf ts c.loop-k.best (lookup a.name.now (merged_from ts i))) next c.loop-k.invariant))

pub returns : goal.returns
returns c =
    let a = c.args in
    let none : c.loop-k.k ≡ 0 = omega (arith, c.loop-k-test.false) in
    subst (λ (i : ℕ). BestOf (map (λ x. x.now) a.tables) c.loop-k.best (lookup a.name.now (merged_from (map (λ x. x.now) a.tables) i))) none c.loop-k.invariant
