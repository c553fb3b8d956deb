use mathlib.Core.List.{map}
use mathlib.Core.Path.{refl}
use native.Mathlib.Omega.{arith}
use Rattle.want.proofs.PlaceLaws.{element, within_lent}
use Rattle.want.proofs.RankLaws.{headed_lowest}
use Rattle.want.proofs.TurnLaws.{headed_after, turn_ended, turn_goes}
use Rattle.want.proofs.DoneLaws.{local_good, begun_done, done_stand, blocks_within, done_less, counted_starts, counted_small, counted_all, counted_more}
use Rattle.want.proofs.EntryLaws.{serves_first}
use Rattle.want.proofs.list.count.Goals as goal

pub loop-turn-init : goal.loop-turn-init
loop-turn-init c = counted_starts (begun_done (map (λ x. x.now) c.args.tables) c.requires.five c.args.start.file c.args.start.places c.requires.begun)

pub next_head-head-requires : goal.next_head-head-requires
next_head-head-requires c = done_stand c.loop-turn.invariant.so_far

pub returns-in_default : goal.returns-in_default
returns-in_default c = counted_all c.requires.five c.loop-turn.invariant c.next_head-head.ensures (turn_ended c.next_head-head.result.best c.next_head-head.result.fields c.turn_of.ensures c.in_default.is)

pub offset_bounds-tables-best : goal.offset_bounds-tables-best
offset_bounds-tables-best c = omega (arith, c.next_head-head.ensures.small)

pub bounds-tables-best : goal.bounds-tables-best
bounds-tables-best c = c.next_head-head.ensures.small

pub count_blocks-n-requires : goal.count_blocks-n-requires
count_blocks-n-requires c =
    let h = c.next_head-head.ensures in
    let g = turn_goes c.next_head-head.result.best c.next_head-head.result.fields c.turn_of.ensures c.in-Some.is in
    record { local_value = local_good (λ x. x.now) c.args.tables _ refl c.requires.five; serves = serves_first (λ x. x.now) c.args.tables _ refl c.requires.serves; blocks_in_bounds = within_lent (λ x. x.now) c.args.tables _ _ refl (omega (arith, g.first_is, g.count_is, blocks_within c.loop-turn.invariant.so_far c.requires.five (headed_lowest h) h.fields_are g.is)) }

pub overflow_add-n : goal.overflow_add-n
overflow_add-n c =
    let h = c.next_head-head.ensures in
    let g = turn_goes c.next_head-head.result.best c.next_head-head.result.fields c.turn_of.ensures c.in-Some.is in
    omega (arith, counted_small c.requires.five (counted_more c.requires.five c.loop-turn.invariant h g.is (element (λ x. x.now) c.args.tables 0 _ refl) (element (λ x. x.now) c.args.tables _ _ refl) g.first_is g.count_is c.count_blocks-n.ensures))

pub loop-turn-smaller : goal.loop-turn-smaller
loop-turn-smaller c =
    let h = c.next_head-head.ensures in
    let g = turn_goes c.next_head-head.result.best c.next_head-head.result.fields c.turn_of.ensures c.in-Some.is in
    done_less c.loop-turn.invariant.so_far c.requires.five (headed_lowest h) h.fields_are g.is (headed_after h g.is)

pub loop-turn-preserved : goal.loop-turn-preserved
loop-turn-preserved c =
    let h = c.next_head-head.ensures in
    let g = turn_goes c.next_head-head.result.best c.next_head-head.result.fields c.turn_of.ensures c.in-Some.is in
    counted_more c.requires.five c.loop-turn.invariant h g.is (element (λ x. x.now) c.args.tables 0 _ refl) (element (λ x. x.now) c.args.tables _ _ refl) g.first_is g.count_is c.count_blocks-n.ensures
