-- The bytes are put, or there is no room for them.
use mathlib.Core.Path.{refl}
use native.Mathlib.Omega.{arith}
use Rattle.xdr.proofs.BufferLaws.{filled_none, put_next}
use Rattle.xdr.proofs.FillingLaws.{fills_short, fills_given}
use Rattle.edition.proofs.turning.whole.Goals as goal

pub returns-then-out-n : goal.returns-then-out-n
returns-then-out-n c = fills_short c.args.out.now refl c.if-out-n.true c.refused.ensures

pub returns : goal.returns
returns c =
    let a = c.args in
    let room = c.if-out-n.false in
    fills_given a.out.now refl (omega (arith, room)) refl (put_next (filled_none a.out.now) a.m.now refl (omega (arith, room)) c.put_raw.ensures.1).fills
