use Rattle.std.proofs.Common.{rules}
use mathlib.Core.List.{map}
use mathlib.Core.Path.{◌≡◌, refl, ◌∙◌}
use native.Mathlib.Omega.{arith}
use lib.ListN.{length}
use Rattle.want.specs.Steps.Places.{place_at}
use Rattle.want.proofs.PlaceLaws.{element}
use Rattle.want.proofs.FieldLaws.{stands_in, kept_in}
use Rattle.want.proofs.RankLaws.{outline_in, rank_in_lem, past_in, head_as, head_ends, head_starts, head_before, head_same, head_newer, head_after}
use Rattle.want.proofs.head.next_head.Goals.{in-Before, in-Same, in-Newer, in-After}
use Rattle.want.proofs.head.next_head.Goals as goal

pub record_at-fields-requires : goal.record_at-fields-requires
record_at-fields-requires c = stands_in (place_at c.args.places 0) (c.requires 0 (omega arith)) (element (λ x. x.now) c.args.tables 0 _ refl)

pub loop-k-init : goal.loop-k-init
loop-k-init c =
    let s = c.args in
    let long : length s.places ≡ 5 = search rules in
    (head_starts (map (λ x. x.now) s.tables) s.places (outline_in (place_at s.places 0) c.record_at-fields.ensures (element (λ x. x.now) s.tables 0 _ refl)) c.past_of.ensures long, long)

pub offset_bounds-tables-best : goal.offset_bounds-tables-best
offset_bounds-tables-best c = omega (arith, c.loop-k.invariant.0.small)

pub bounds-tables-best : goal.bounds-tables-best
bounds-tables-best c = omega (arith, c.loop-k.invariant.0.small)

pub standing-requires : goal.standing-requires
standing-requires c =
    let v = c.loop-k in
    record {
      kept = kept_in (place_at c.args.places v.best) v.invariant.0.fields_are (c.requires v.best v.invariant.0.small) (element (λ x. x.now) c.args.tables v.best _ refl);
      stands = stands_in (place_at c.args.places v.k) (c.requires v.k c.loop-k-test.true) (element (λ x. x.now) c.args.tables v.k _ refl);
    }

pub record_at-requires : goal.record_at-requires
record_at-requires c =
    let v = c.loop-k in
    stands_in (place_at c.args.places v.k) (c.requires v.k c.loop-k-test.true) (element (λ x. x.now) c.args.tables v.k _ refl)

pub record_at-fields-requires-in-Newer : goal.record_at-fields-requires-in-Newer
record_at-fields-requires-in-Newer c =
    let v = c.loop-k in
    stands_in (place_at c.args.places v.k) (c.requires v.k c.loop-k-test.true) (element (λ x. x.now) c.args.tables v.k _ refl)

pub record_at-fields-requires-in-After : goal.record_at-fields-requires-in-After
record_at-fields-requires-in-After c =
    let v = c.loop-k in
    stands_in (place_at c.args.places v.k) (c.requires v.k c.loop-k-test.true) (element (λ x. x.now) c.args.tables v.k _ refl)

pub loop-k-preserved : goal.loop-k-preserved
loop-k-preserved c =
    let s = c.args in
    let v = c.loop-k in
    let h = c.loop-k-test.true in
    let at = place_at s.places v.k in
    let t = element (λ x. x.now) s.tables v.k _ refl in
    let q = rank_in_lem v.fields at c.standing.ensures (element (λ x. x.now) s.tables v.best _ refl) t in (
      elim c.match-standing.branch [
        | in-Before p ↦ head_as (head_before v.invariant.0 h v.invariant.1 refl q p.in-Before.is) p.best-is p.fields-is p.past-is
        | in-Same p ↦ head_as (head_same v.invariant.0 h v.invariant.1 refl q (past_in at p.past_of-in-Same.ensures (outline_in at p.record_at.ensures t)) p.in-Same.is) p.best-is p.fields-is p.past-is
        | in-Newer p ↦ head_as (head_newer v.invariant.0 h v.invariant.1 refl q (past_in at p.past_of-in-Newer.ensures (outline_in at p.record_at-fields-in-Newer.ensures t)) p.in-Newer.is) p.best-is (p.fields-is ∙ outline_in at p.record_at-fields-in-Newer.ensures t) p.past-is
        | in-After p ↦ head_as (head_after v.invariant.0 h v.invariant.1 refl q (past_in at p.past_of-in-After.ensures (outline_in at p.record_at-fields-in-After.ensures t)) p.in-After.is) p.best-is (p.fields-is ∙ outline_in at p.record_at-fields-in-After.ensures t) p.past-is
      ],
      v.invariant.1,
    )

pub returns : goal.returns
returns c = head_ends c.loop-k.invariant.0 (omega arith) (omega (arith, c.loop-k-test.false))
