use mathlib.Core.Path.{refl}
use native.Mathlib.Omega.{arith}
use Rattle.want.specs.Listing.{block_with}
use Rattle.want.proofs.PlaceLaws.{element, asking_starts, asking_found, asking_goes_on, asking_ends}
use Rattle.want.proofs.PeerLaws.{mark_here, along_turn, told_here}
use Rattle.want.proofs.peers.ask.Goals as goal

pub loop-k-init : goal.loop-k-init
loop-k-init c = (asking_starts _, c.requires)

pub forward-mark-requires : goal.forward-mark-requires
forward-mark-requires c = mark_here c.loop-k.invariant.1 c.loop-k-test.true (element (λ x. x.now) c.args.tables _ _ refl)

pub has_there-requires : goal.has_there-requires
has_there-requires c = c.forward-mark.ensures.within

pub overflow_cast-result : goal.overflow_cast-result
overflow_cast-result c = omega (arith, c.loop-k-test.true)

pub returns-then-has_there : goal.returns-then-has_there
returns-then-has_there c =
    let s = c.args in
    let h = c.loop-k-test.true in
    let e = element (λ x. x.now) s.tables c.loop-k.k _ refl in
    let m = c.forward-mark.ensures in
    record { value = asking_found c.loop-k.invariant.0 h (told_here c.loop-k.invariant.1 h e m (block_with s.size s.hash.now) c.has_there.ensures c.if-has_there.true); along = along_turn c.loop-k.invariant.1 h e m }

pub loop-k-preserved : goal.loop-k-preserved
loop-k-preserved c =
    let s = c.args in
    let h = c.loop-k-test.true in
    let e = element (λ x. x.now) s.tables c.loop-k.k _ refl in
    let m = c.forward-mark.ensures in
    (asking_goes_on c.loop-k.invariant.0 h (told_here c.loop-k.invariant.1 h e m (block_with s.size s.hash.now) c.has_there.ensures c.if-has_there.false), along_turn c.loop-k.invariant.1 h e m)

pub returns : goal.returns
returns c = record { value = asking_ends c.loop-k.invariant.0 (omega (arith, c.loop-k-test.false)); along = c.loop-k.invariant.1 }
