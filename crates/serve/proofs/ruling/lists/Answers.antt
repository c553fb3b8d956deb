use Rattle.want.specs.Listing.{block_with}
use Rattle.serve.proofs.RulingLaws.{look_starts, look_ends, look_less, look_found, look_on}
use Rattle.serve.proofs.ruling.lists.Goals as goal

pub loop-f-init : goal.loop-f-init
loop-f-init c = look_starts c.args.table.now c.args.name.now (λ i. (c.type_inv.table i).fits) c.requires

pub returns : goal.returns
returns c = let s = c.args in look_ends c.loop-f.invariant c.outline_at.ensures s.offset (block_with s.size s.hash.now) c.in_default.is

pub returns-then-is_eq : goal.returns-then-is_eq
returns-then-is_eq c = let s = c.args in look_found c.loop-f.invariant c.outline_at.ensures c.in-Some.is c.part.ensures c.compare_bytes.ensures c.is_eq.ensures s.offset (block_with s.size s.hash.now) c.if-is_eq.true c.lists_at.ensures

pub loop-f-smaller : goal.loop-f-smaller
loop-f-smaller c = look_less c.loop-f.invariant c.outline_at.ensures c.in-Some.is

pub loop-f-preserved : goal.loop-f-preserved
loop-f-preserved c = look_on c.loop-f.invariant c.outline_at.ensures c.in-Some.is c.part.ensures c.compare_bytes.ensures c.is_eq.ensures c.if-is_eq.false
