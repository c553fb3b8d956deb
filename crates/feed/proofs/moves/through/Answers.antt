use mathlib.Core.Path.{sym, ◌∙◌}
use native.Mathlib.Omega.{arith}
use Rattle.feed.proofs.MoveLaws.{begun_none, begun_more, begun_end, begun_final, part_some, part_moves}
use Rattle.feed.proofs.moves.through.Goals as goal

pub loop-i-init : goal.loop-i-init
loop-i-init c = begun_none c.args.state c.args.run.now c.requires

pub returns-then-not-wants : goal.returns-then-not-wants
returns-then-not-wants c = begun_final c.loop-i.invariant (sym c.wants.ensures ∙ c.if-not-wants.true)

pub slice_bounds-advance-count : goal.slice_bounds-advance-count
slice_bounds-advance-count c = c.loop-i.invariant.within

pub advance-moved-requires : goal.advance-moved-requires
advance-moved-requires c = (c.loop-i.invariant.comes.sound, sym c.wants.ensures ∙ c.if-not-wants.false, part_some c.args.run.now c.loop-i.i c.loop-i-test.true)

pub overflow_add-i : goal.overflow_add-i
overflow_add-i c = omega (arith, (begun_more c.loop-i.invariant (sym c.wants.ensures ∙ c.if-not-wants.false) c.advance-moved.result (part_moves c.args.run.now c.loop-i.i c.advance-moved.ensures)).within)

pub loop-i-smaller : goal.loop-i-smaller
loop-i-smaller c = omega (arith, (begun_more c.loop-i.invariant (sym c.wants.ensures ∙ c.if-not-wants.false) c.advance-moved.result (part_moves c.args.run.now c.loop-i.i c.advance-moved.ensures)).within, c.advance-moved.ensures.some)

pub loop-i-preserved : goal.loop-i-preserved
loop-i-preserved c = (begun_more c.loop-i.invariant (sym c.wants.ensures ∙ c.if-not-wants.false) c.advance-moved.result (part_moves c.args.run.now c.loop-i.i c.advance-moved.ensures))

pub returns : goal.returns
returns c = begun_end c.loop-i.invariant c.loop-i-test.false
