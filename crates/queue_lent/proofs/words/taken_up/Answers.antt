-- One entry a turn.
use mathlib.Core.Path.{◌≡◌, refl}
use native.Mathlib.Omega.{arith}
use Rattle.link.specs.Requests.{blank}
use Rattle.queue_lent.specs.Words.{entry_at, link_in}
use Rattle.queue_lent.proofs.WordLaws.{tabulated_more}
use Rattle.queue_lent.proofs.words.taken_up.Goals as goal

pub loop-i-init : goal.loop-i-init
loop-i-init c = (omega arith, (c.requires, refl))

pub loop-i-preserved : goal.loop-i-preserved
loop-i-preserved c =
    let l = c.loop-i in
    (omega arith, (l.invariant.1.0, rw l.invariant.1.1 (tabulated_more (entry_at c.args.words.now) blank 16 l.i (omega arith))))

pub returns : goal.returns
unfolding link_in
returns c =
    let l = c.loop-i in
    let e : l.i ≡ 16 = omega arith in
    rw (l.invariant.1.1, e)
