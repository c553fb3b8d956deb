-- There is no room, or the part from the place on came back filled.
use mathlib.Core.Path.{sym}
use native.Mathlib.Omega.{arith}
use Rattle.xdr.specs.Format.{encode}
use Rattle.xdr.specs.Fields.{word}
use Rattle.xdr.proofs.EncodedSize.{number_size}
use Rattle.xdr.proofs.BufferLaws.{put_refused, put_stored}
use Rattle.xdr.proofs.put.put_word.Goals as goal
use Rattle.xdr.proofs.put.put_word.Goals.{then-out-lt4-via-then-out-lt4, then-out-lt4-via-else-out-lt4+then-out-at}

pub returns-then-out-lt4 : goal.returns-then-out-lt4
returns-then-out-lt4 c =
    let size = number_size 4 c.args.w in
    elim c.then-out-lt4.branch [
      | then-out-lt4-via-then-out-lt4 w ↦ put_refused _ _ (encode word c.args.w) (omega arith)
      | then-out-lt4-via-else-out-lt4+then-out-at w ↦ put_refused _ _ (encode word c.args.w) (omega arith)
    ]

pub returns : goal.returns
returns c =
    let size = number_size 4 c.args.w in
    put_stored c.args.out.now c.args.at (encode word c.args.w) _ 4 (omega (arith, size)) (sym size) c.store_word.ensures
