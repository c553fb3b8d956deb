use mathlib.Core.Path.{sym, ◌∙◌}
use native.Mathlib.Omega.{arith}
use Rattle.want.proofs.IndexLaws.{index_starts, index_ends, index_opens, add_there, add_turn, grows, inside, add_closes}
use Rattle.want.proofs.index.build.Goals as goal

pub loop-f-init : goal.loop-f-init
loop-f-init c = index_starts c.args.t.now c.args.index.now (λ i. (c.type_inv.t i).fits) c.requires.t_value c.requires.empty

pub returns : goal.returns
returns c = λ _. index_ends c.loop-f.invariant c.outline_at.ensures c.in_default.is

pub loop-j-init : goal.loop-j-init
loop-j-init c = index_opens c.loop-f.invariant c.outline_at.ensures c.in-Some.is c.listed-count.ensures

pub place-requires : goal.place-requires
place-requires c = omega (arith, add_there c.loop-j.invariant c.loop-j-test.true, c.loop-j.invariant.short)

pub insert-requires : goal.insert-requires
insert-requires c = let w = c.loop-j.invariant in record { index_len = (w.so_far.long, omega (arith, add_there w c.loop-j-test.true, c.place.ensures), w.short); within = w.so_far.within }

pub shape_of-index-then-not-insert : goal.shape_of-index-then-not-insert
shape_of-index-then-not-insert c = c.insert.auto.index ∙ c.loop-j.invariant.so_far.long ∙ sym c.requires.empty.long

pub returns-then-not-insert : goal.returns-then-not-insert
returns-then-not-insert c = λ e. cc

pub loop-j-preserved : goal.loop-j-preserved
loop-j-preserved c = add_turn c.loop-j.invariant c.loop-j-test.true c.place.ensures c.insert.ensures.value c.if-not-insert.false c.insert.ensures.index_after

pub loop-f-smaller : goal.loop-f-smaller
loop-f-smaller c = let w = c.loop-j.invariant in omega (arith, grows w, inside w)

pub loop-f-preserved : goal.loop-f-preserved
loop-f-preserved c = add_closes c.loop-j.invariant c.loop-j-test.false
