use mathlib.Core.List.{map}
use native.Mathlib.Omega.{arith}
use Rattle.table.specs.Table.{records}
use Rattle.want.specs.Steps.Places.{table_at}
use Rattle.want.specs.Steps.Runs.{peer_in}
use Rattle.want.proofs.PeerLaws.{along_starts, along_later}
use Rattle.want.proofs.EntryLaws.{enter_starts, enter_fits, enter_length, enter_turn, enter_ends}
use Rattle.want.proofs.list.fill_blocks.Goals as goal

pub loop-j-init : goal.loop-j-init
loop-j-init c =
    let s = c.args in
    (enter_starts (records (table_at (map (λ x. x.now) s.tables) 0)) (peer_in (map (λ x. x.now) s.tables) s.runs) s.file s.t.now s.first s.count s.at s.out.now, along_starts (map (λ x. x.now) s.tables) s.runs c.requires.in_tables)

pub place-p-requires : goal.place-p-requires
place-p-requires c = omega (arith, c.loop-j-test.true, c.requires.count_in_bounds, c.well_formed)

pub fill_block-next-requires : goal.fill_block-next-requires
fill_block-next-requires c =
    let s = c.requires in
    let l = c.loop-j.invariant in
    let h = c.loop-j-test.true in
    record {
      tables_value = s.tables_value;
      serves = s.serves;
      along = l.1;
      p_in_bounds = omega (arith, h, c.place-p.ensures, s.count_in_bounds);
      p_in_bounds_2 = enter_fits l.0 s.count_in_bounds_2 h c.place-p.ensures;
    }

pub overflow_add-next : goal.overflow_add-next
overflow_add-next c =
    let l = c.loop-j.invariant.0 in
    omega (arith, c.well_formed, c.fill_block-next.ensures.value, enter_fits l c.requires.count_in_bounds_2 c.loop-j-test.true c.place-p.ensures, enter_length l c.requires.count_in_bounds_2)

pub size_at-requires : goal.size_at-requires
size_at-requires c = omega (arith, c.loop-j-test.true, c.place-p.ensures, c.requires.count_in_bounds)

pub overflow_add-offset : goal.overflow_add-offset
overflow_add-offset c = omega (arith, c.loop-j.invariant.0.small, c.loop-j-test.true)

pub loop-j-preserved : goal.loop-j-preserved
loop-j-preserved c =
    let f = c.fill_block-next.ensures in
    (enter_turn c.loop-j.invariant.0 c.requires.count_in_bounds_2 c.loop-j-test.true c.place-p.ensures f.value f.out_after c.size_at.ensures c.size_at.type_inv, along_later f.along_2 (omega arith))

pub shape_of-out : goal.shape_of-out
shape_of-out c = enter_length c.loop-j.invariant.0 c.requires.count_in_bounds_2

pub returns : goal.returns
returns c = let e = enter_ends c.loop-j.invariant.0 c.requires.count_in_bounds_2 c.loop-j-test.false in record { value = e.0; out_after = e.1 }
