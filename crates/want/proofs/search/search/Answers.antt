use native.Mathlib.Omega.{arith}
use Rattle.want.specs.Listing.{block_with}
use Rattle.want.proofs.SearchLaws.{search_starts, search_ends, search_opens, block_there, search_found, search_passes, grows, inside, search_closes}
use Rattle.want.proofs.search.search.Goals as goal

pub records-init : goal.records-init
records-init c = search_starts c.args.table.now (block_with c.args.size c.args.hash.now) (λ i. (c.type_inv.table i).fits) c.requires

pub returns-in_default : goal.returns-in_default
returns-in_default c = search_ends c.records.invariant c.outline_at.ensures c.in_default.is

pub loop-j-init : goal.loop-j-init
loop-j-init c = search_opens c.records.invariant c.outline_at.ensures c.in-Some.is c.listed-count.ensures

pub place-requires : goal.place-requires
place-requires c = omega (arith, block_there c.loop-j.invariant c.loop-j-test.true, c.well_formed)

pub is_block-requires : goal.is_block-requires
is_block-requires c = omega (arith, c.place.ensures, block_there c.loop-j.invariant c.loop-j-test.true)

pub loop-j-preserved : goal.loop-j-preserved
loop-j-preserved c = search_passes c.loop-j.invariant c.loop-j-test.true c.place.ensures c.is_block.ensures c.if-is_block.false

pub overflow_add-n : goal.overflow_add-n
overflow_add-n c = let w = c.loop-j.invariant in omega (arith, w.few, grows w, inside w, w.short)

pub records-smaller : goal.records-smaller
records-smaller c = let w = c.loop-j.invariant in omega (arith, grows w, inside w)

pub records-preserved : goal.records-preserved
records-preserved c = search_closes c.loop-j.invariant c.loop-j-test.false

pub returns : goal.returns
returns c = search_found c.loop-j.invariant c.loop-j-test.true c.place.ensures c.is_block.ensures c.if-is_block.true
