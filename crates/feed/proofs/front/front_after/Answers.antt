use Rattle.feed.proofs.FrontLaws.{fronting_none, front_small, fronting_more, fronting_full, fronting_all}
use Rattle.feed.proofs.front.front_after.Goals as goal

pub loop-b-init : goal.loop-b-init
loop-b-init c = fronting_none c.args.front c.args.run.now c.requires

pub returns-then-f-eq4 : goal.returns-then-f-eq4
returns-then-f-eq4 c = fronting_full c.loop-b.invariant c.if-f-eq4.true

pub one_more-f-requires : goal.one_more-f-requires
one_more-f-requires c = front_small c.loop-b.invariant.fits c.if-f-eq4.false

pub loop-b-preserved : goal.loop-b-preserved
loop-b-preserved c =
    fronting_more c.loop-b.invariant c.loop-b-test.true c.if-f-eq4.false (c.type_inv.run c.loop-b.b-index).fits c.one_more-f.result c.one_more-f.ensures.0 c.one_more-f.ensures.1

pub returns : goal.returns
returns c = fronting_all c.loop-b.invariant c.loop-b-test.false
