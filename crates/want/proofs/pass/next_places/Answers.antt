use Rattle.std.proofs.Common.{rules}
use mathlib.Core.List.{map}
use mathlib.Core.Path.{◌≡◌, refl}
use native.Mathlib.Omega.{arith}
use lib.ListN.{length}
use Rattle.want.specs.Steps.Places.{place_at}
use Rattle.want.proofs.PlaceLaws.{element}
use Rattle.want.proofs.FieldLaws.{stands_in}
use Rattle.want.proofs.RankLaws.{outline_in, past_in}
use Rattle.want.proofs.PassLaws.{named_starts, named_turn, named_none, named_some, order_as, named_as}
use Rattle.want.proofs.pass.next_places.Goals.{in-Less, in-Equal, in-Greater}
use Rattle.want.proofs.pass.next_places.Goals as goal

pub record_at-requires : goal.record_at-requires
record_at-requires c = stands_in (place_at c.args.places 0) (c.requires 0 (omega arith)) (element (λ x. x.now) c.args.tables 0 _ refl)

pub loop-k-init : goal.loop-k-init
loop-k-init c =
    let s = c.args in
    let long : length s.places ≡ 5 = search rules in
    (named_starts (map (λ x. x.now) s.tables) s.places (past_in (place_at s.places 0) c.past_of.ensures (outline_in (place_at s.places 0) c.record_at.ensures (element (λ x. x.now) s.tables 0 _ refl))) long, long)

pub offset_bounds-tables-best : goal.offset_bounds-tables-best
offset_bounds-tables-best c = omega (arith, c.loop-k.invariant.0.small)

pub bounds-tables-best : goal.bounds-tables-best
bounds-tables-best c = omega (arith, c.loop-k.invariant.0.small)

pub offset_bounds-places-best : goal.offset_bounds-places-best
offset_bounds-places-best c = omega (arith, c.loop-k.invariant.0.small)

pub bounds-places-best : goal.bounds-places-best
bounds-places-best c = omega (arith, c.loop-k.invariant.0.small)

pub compare_at-requires : goal.compare_at-requires
compare_at-requires c =
    let v = c.loop-k in
    record {
      stands = stands_in (place_at c.args.places v.best) (c.requires v.best v.invariant.0.small) (element (λ x. x.now) c.args.tables v.best _ refl);
      stands_2 = stands_in (place_at c.args.places v.k) (c.requires v.k c.loop-k-test.true) (element (λ x. x.now) c.args.tables v.k _ refl);
    }

pub record_at-requires-in-Equal : goal.record_at-requires-in-Equal
record_at-requires-in-Equal c =
    let v = c.loop-k in
    stands_in (place_at c.args.places v.k) (c.requires v.k c.loop-k-test.true) (element (λ x. x.now) c.args.tables v.k _ refl)

pub record_at-requires-in-Greater : goal.record_at-requires-in-Greater
record_at-requires-in-Greater c =
    let v = c.loop-k in
    stands_in (place_at c.args.places v.k) (c.requires v.k c.loop-k-test.true) (element (λ x. x.now) c.args.tables v.k _ refl)

pub loop-k-preserved : goal.loop-k-preserved
loop-k-preserved c =
    let s = c.args in
    let v = c.loop-k in
    let h = c.loop-k-test.true in
    let at = place_at s.places v.k in
    let t = element (λ x. x.now) s.tables v.k _ refl in
    let q = order_as (place_at s.places v.best) at c.compare_at.ensures (element (λ x. x.now) s.tables v.best _ refl) t in (
      elim c.match-compare_at.branch [
        | in-Less p ↦ named_as (named_turn v.invariant.0 h v.invariant.1 refl q p.in-Less.is) p.best-is p.past-is
        | in-Equal p ↦ named_as (named_turn v.invariant.0 h v.invariant.1 (past_in at p.past_of-in-Equal.ensures (outline_in at p.record_at-in-Equal.ensures t)) q p.in-Equal.is) p.best-is p.past-is
        | in-Greater p ↦ named_as (named_turn v.invariant.0 h v.invariant.1 (past_in at p.past_of-in-Greater.ensures (outline_in at p.record_at-in-Greater.ensures t)) q p.in-Greater.is) p.best-is p.past-is
      ],
      v.invariant.1,
    )

pub offset_bounds-tables-best-2 : goal.offset_bounds-tables-best-2
offset_bounds-tables-best-2 c = omega (arith, c.loop-k.invariant.0.small)

pub bounds-tables-best-2 : goal.bounds-tables-best-2
bounds-tables-best-2 c = omega (arith, c.loop-k.invariant.0.small)

pub offset_bounds-places-best-2 : goal.offset_bounds-places-best-2
offset_bounds-places-best-2 c = omega (arith, c.loop-k.invariant.0.small)

pub bounds-places-best-2 : goal.bounds-places-best-2
bounds-places-best-2 c = omega (arith, c.loop-k.invariant.0.small)

pub returns-then-tables-best : goal.returns-then-tables-best
returns-then-tables-best c =
    let v = c.loop-k in
    named_none v.invariant.0 (omega arith) (omega (arith, c.loop-k-test.false)) (element (λ x. x.now) c.args.tables v.best _ refl) c.if-tables-best.true

pub returns : goal.returns
returns c =
    let v = c.loop-k in
    named_some v.invariant.0 (omega arith) (omega (arith, c.loop-k-test.false)) (c.requires v.best v.invariant.0.small) (element (λ x. x.now) c.args.tables v.best _ refl) c.if-tables-best.false
