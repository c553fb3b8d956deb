-- The length, the contents behind it, and the pad behind those.
use Prim.Native.Nat.{ℕ, ◌+◌, ◌-◌}
use mathlib.Core.Path.{◌≡◌, sym, ap, ◌∙◌}
use mathlib.Core.List.{◌++◌, append_assoc}
use native.Mathlib.Omega.{arith}
use borrow.Rule.Slice.PartMut.{put_mid}
use lib.ListN.{length, take, drop, replicate, length-append, length-drop, length-replicate}
use lib.Seq.{length-take-le}
use Rattle.xdr.specs.Buffer.{filled}
use Rattle.xdr.specs.Format.{encode}
use Rattle.xdr.specs.Fields.{word}
use Rattle.xdr.specs.Pad.{padded}
use Rattle.xdr.proofs.EncodedSize.{number_size}
use Rattle.xdr.proofs.BufferLaws.{filled_behind, filled_whole, length_filled}
use Rattle.xdr.proofs.put.store_bytes.Goals as goal

pub returns : goal.returns
unfolding encode
returns c =
    let src = c.args.src.now in
    let out = c.args.out.now in
    let pad : ℕ = padded (length src) - length src in
    let o = c.store_word.new.out in
    let front = encode word (length src) ++ src in
    let behind = (let src = c.args.src.now in let o = c.store_word.new.out in filled_behind c.args.out.now o (encode word (length src)) src c.copy.new.out 4 (length o - 4) (number_size 4 (length src)) (omega arith) (omega arith) c.store_word.ensures c.copy.ensures) in
    let size = length-append (encode word (length src)) src in
    let k = 4 + length src + c.pad_after.result - (4 + length src) in
    let exact : k ≡ pad = omega (arith, c.pad_after.ensures) in
    let part = take k (drop (4 + length src) (let o = c.store_word.new.out in put_mid 4 (length o - 4) o c.copy.new.out)) in
    let long = ap length behind ∙ length_filled out front (omega (arith, size, number_size 4 (length src))) in
    let part_long = length-take-le k (drop (4 + length src) (let o = c.store_word.new.out in put_mid 4 (length o - 4) o c.copy.new.out)) (simp length-drop (omega (arith, long))) in
    filled_behind out (let o = c.store_word.new.out in put_mid 4 (length o - 4) o c.copy.new.out) front (replicate pad 0) c.clear.new.out (4 + length src) k
    (omega (arith, size, number_size 4 (length src))) (omega (arith, length-replicate {A = ℕ} pad 0)) (omega arith) behind
    (c.clear.ensures ∙ ap (λ (n : ℕ). replicate n 0) (part_long ∙ exact) ∙ sym (filled_whole part (replicate pad 0) (length-replicate pad 0 ∙ sym exact ∙ sym part_long)))
    ∙ ap (filled out) (append_assoc (encode word (length src)) src (replicate pad 0))
