use native.Mathlib.Omega.{arith}
use Rattle.table.specs.Table.{records}
use Rattle.want.proofs.CountLaws.{counting_starts, counting_small, counting_turn, counting_ends}
use Rattle.want.proofs.list.count_blocks.Goals as goal

pub loop-j-init : goal.loop-j-init
loop-j-init c = let s = c.args in counting_starts (records s.local.now) s.t.now s.first s.blocks

pub place-requires : goal.place-requires
place-requires c = omega (arith, c.loop-j-test.true, c.requires.blocks_in_bounds, c.well_formed)

pub count_block-n-requires : goal.count_block-n-requires
count_block-n-requires c = let s = c.requires in record { local_value = s.local_value; serves = s.serves; p_in_bounds = omega (arith, c.place.ensures, c.loop-j-test.true, s.blocks_in_bounds) }

pub overflow_add-n : goal.overflow_add-n
overflow_add-n c = omega (arith, c.loop-j-test.true, c.loop-j.invariant.few, counting_small c.loop-j.invariant c.place.result c.count_block-n.ensures)

pub loop-j-preserved : goal.loop-j-preserved
loop-j-preserved c = counting_turn c.loop-j.invariant c.loop-j-test.true c.place.ensures c.count_block-n.ensures

pub returns : goal.returns
returns c = counting_ends c.loop-j.invariant c.loop-j-test.false
