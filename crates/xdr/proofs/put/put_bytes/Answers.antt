-- There is no length word or no room, or the part from the place on came back filled.
use Prim.Native.Nat.{ℕ, ◌+◌}
use mathlib.Core.Path.{◌≡◌, ap, ◌∙◌}
use mathlib.Core.List.{List}
use native.Mathlib.Omega.{arith}
use lib.ListN.{length}
use Rattle.xdr.specs.Format.{bytes, encode}
use Rattle.xdr.specs.Fields.{word}
use Rattle.xdr.specs.Pad.{padded}
use Rattle.xdr.proofs.EncodedSize.{number_size, bytes_size}
use Rattle.xdr.proofs.BufferLaws.{put_refused, put_stored, opaque_bytes_lem}
use Rattle.xdr.proofs.put.put_bytes.Goals as goal
use Rattle.xdr.proofs.put.put_bytes.Goals.{then-out-size-via-then-out-size, then-out-size-via-else-out-size+then-out-size-2}

size : (l : List ℕ) → length (encode (bytes word) l) ≡ 4 + padded (length l)
size l = bytes_size word l ∙ ap (λ (n : ℕ). n + padded (length l)) (number_size 4 (length l))

pub returns-then-out-size : goal.returns-then-out-size
returns-then-out-size c =
    let src = c.args.src.now in
    let long = size src in
    elim c.then-out-size.branch [
      | then-out-size-via-then-out-size w ↦ rw (opaque_bytes_lem src c.if-n-gt4294967295.false) (put_refused _ _ (encode (bytes word) src) (omega (arith, c.pad_after.ensures)))
      | then-out-size-via-else-out-size+then-out-size-2 w ↦ rw (opaque_bytes_lem src c.if-n-gt4294967295.false) (put_refused _ _ (encode (bytes word) src) (omega (arith, c.pad_after.ensures)))
    ]

pub returns : goal.returns
returns c =
    let src = c.args.src.now in
    let long = size src in
    let pad = c.pad_after.ensures in
    rw (opaque_bytes_lem src c.if-n-gt4294967295.false)
    (put_stored c.args.out.now c.args.at (encode (bytes word) src) _ _ (omega arith) (omega arith) c.store_bytes.ensures)
