use mathlib.Core.List.{map}
use native.Mathlib.Omega.{arith}
use Rattle.want.specs.Steps.Head.{name_at}
use Rattle.want.specs.Steps.Places.{table_at}
use Rattle.want.proofs.RankLaws.{headed_lowest}
use Rattle.want.proofs.TurnLaws.{headed_after, turn_ended, turn_goes}
use Rattle.want.proofs.PeerLaws.{run_wanted}
use Rattle.want.proofs.DoneLaws.{total_small, begun_done, done_stand, blocks_within, done_less}
use Rattle.want.proofs.EntryLaws.{filled_starts, filled_same, filled_all, filled_fits, filled_turn}
use Rattle.want.proofs.list.fill.Goals as goal

pub loop-turn-init : goal.loop-turn-init
loop-turn-init c = filled_starts c.args.out.now (begun_done (map (λ x. x.now) c.args.tables) c.requires.five c.args.start.file c.args.start.places c.requires.begun)

pub next_head-head-requires : goal.next_head-head-requires
next_head-head-requires c = done_stand c.loop-turn.invariant.so_far

pub shape_of-out-in_default : goal.shape_of-out-in_default
shape_of-out-in_default c = let s = c.requires in filled_same s.five c.loop-turn.invariant s.tables_in_bounds

pub returns-in_default : goal.returns-in_default
returns-in_default c = let s = c.requires in let e = filled_all s.five c.loop-turn.invariant s.tables_in_bounds c.next_head-head.ensures (turn_ended c.next_head-head.result.best c.next_head-head.result.fields c.turn_of.ensures c.in_default.is) in record { value = e.0; out_after = e.1 }

pub fill_record-at-requires : goal.fill_record-at-requires
fill_record-at-requires c =
    let l = c.loop-turn in
    let h = c.next_head-head.ensures in
    let g = turn_goes c.next_head-head.result.best c.next_head-head.result.fields c.turn_of.ensures c.in-Some.is in
    let t = table_at (map (λ x. x.now) c.args.tables) c.next_head-head.result.best in
    record {
      tables_value = c.requires.five.good 0 (omega arith);
      serves = c.requires.serves;
      best_bound = (h.small, omega (arith, g.first_is, g.count_is, blocks_within l.invariant.so_far c.requires.five (headed_lowest h) h.fields_are g.is));
      file_in_bounds = filled_fits c.requires.five l.invariant c.requires.tables_in_bounds h g.is (run_wanted (map (λ x. x.now) c.args.tables) l.places (name_at t g.record_fields) (headed_after h g.is) l.file t g.first_is g.count_is);
    }

pub overflow_add-file : goal.overflow_add-file
overflow_add-file c = let d = c.loop-turn.invariant.so_far in omega (arith, d.few, total_small c.requires.five d.walk)

pub loop-turn-smaller : goal.loop-turn-smaller
loop-turn-smaller c =
    let h = c.next_head-head.ensures in
    let g = turn_goes c.next_head-head.result.best c.next_head-head.result.fields c.turn_of.ensures c.in-Some.is in
    done_less c.loop-turn.invariant.so_far c.requires.five (headed_lowest h) h.fields_are g.is (headed_after h g.is)

pub loop-turn-preserved : goal.loop-turn-preserved
loop-turn-preserved c =
    let l = c.loop-turn in
    let h = c.next_head-head.ensures in
    let g = turn_goes c.next_head-head.result.best c.next_head-head.result.fields c.turn_of.ensures c.in-Some.is in
    let t = table_at (map (λ x. x.now) c.args.tables) c.next_head-head.result.best in
    let f = c.fill_record-at.ensures in
    filled_turn c.requires.five l.invariant c.requires.tables_in_bounds h g.is (run_wanted (map (λ x. x.now) c.args.tables) l.places (name_at t g.record_fields) (headed_after h g.is) l.file t g.first_is g.count_is) f.value f.out_after
