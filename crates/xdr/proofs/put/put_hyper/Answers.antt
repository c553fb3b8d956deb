-- There is no room, or the part from the place on came back filled.
use mathlib.Core.Path.{sym}
use native.Mathlib.Omega.{arith}
use Rattle.xdr.specs.Format.{encode}
use Rattle.xdr.specs.Fields.{hyper}
use Rattle.xdr.proofs.EncodedSize.{number_size}
use Rattle.xdr.proofs.BufferLaws.{put_refused, put_stored}
use Rattle.xdr.proofs.put.put_hyper.Goals as goal
use Rattle.xdr.proofs.put.put_hyper.Goals.{then-out-lt8-via-then-out-lt8, then-out-lt8-via-else-out-lt8+then-out-at}

pub returns-then-out-lt8 : goal.returns-then-out-lt8
returns-then-out-lt8 c =
    let size = number_size 8 c.args.n in
    elim c.then-out-lt8.branch [
      | then-out-lt8-via-then-out-lt8 w ↦ put_refused _ _ (encode hyper c.args.n) (omega arith)
      | then-out-lt8-via-else-out-lt8+then-out-at w ↦ put_refused _ _ (encode hyper c.args.n) (omega arith)
    ]

pub returns : goal.returns
returns c =
    let size = number_size 8 c.args.n in
    put_stored c.args.out.now c.args.at (encode hyper c.args.n) _ 8 (omega (arith, size)) (sym size) c.store_hyper.ensures
