use native.Mathlib.Omega.{arith}
use Rattle.want.specs.Listing.{block_with}
use Rattle.want.proofs.RunLaws.{mark_there, look_starts, look_passed, look_ends, look_finds, look_goes_on}
use Rattle.want.proofs.run.has_there.Goals as goal

pub loop-j-init : goal.loop-j-init
loop-j-init c = look_starts c.args.s.now c.args.run c.args.mark c.args.offset (block_with c.args.size c.args.hash.now) c.requires

pub returns-then-offset-from : goal.returns-then-offset-from
returns-then-offset-from c = look_passed c.loop-j.invariant c.if-offset-from.true

pub place-p-requires : goal.place-p-requires
place-p-requires c = omega (arith, mark_there c.loop-j.invariant.marks c.loop-j-test.true, c.well_formed)

pub is_there-requires : goal.is_there-requires
is_there-requires c = omega (arith, c.place-p.ensures, mark_there c.loop-j.invariant.marks c.loop-j-test.true)

pub returns-then-is_there : goal.returns-then-is_there
returns-then-is_there c = look_finds c.loop-j.invariant c.loop-j-test.true c.place-p.ensures c.is_there.ensures c.if-is_there.true

pub size_at-requires : goal.size_at-requires
size_at-requires c = omega (arith, c.place-p.ensures, mark_there c.loop-j.invariant.marks c.loop-j-test.true)

pub overflow_add-from : goal.overflow_add-from
overflow_add-from c = omega (arith, c.loop-j.invariant.marks.small, c.loop-j.invariant.marks.few, c.size_at.type_inv)

pub loop-j-preserved : goal.loop-j-preserved
loop-j-preserved c = look_goes_on c.loop-j.invariant c.loop-j-test.true c.place-p.ensures c.is_there.ensures c.if-is_there.false c.size_at.ensures c.size_at.type_inv

pub returns : goal.returns
returns c = look_ends c.loop-j.invariant c.loop-j-test.false
