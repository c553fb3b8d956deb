-- A chunk more: the bytes before it are copied, and so is it.
use Prim.Native.Nat.{ℕ, ◌+◌, ◌-◌, ◌≤◌}
use mathlib.Core.List.{List, ◌++◌}
use mathlib.Core.Path.{◌≡◌, refl, sym, ap, ◌∙◌}
use native.Mathlib.Omega.{arith}
use borrow.Rule.Slice.PartMut.{put_mid}
use lib.ListN.{length, take, drop, length-drop}
use lib.Seq.{take-add, take-length, length-take-le}
use Rattle.xdr.specs.Buffer.{filled}
use Rattle.xdr.proofs.BufferLaws.{filled_behind, filled_whole, length_filled}
use Rattle.xdr.proofs.put.copy.Goals as goal

chunk_more : (out s o chunk : List ℕ) (at end : ℕ) → length s ≤ length out → at ≤ end → end ≤ length s → o ≡ filled out (take at s) → chunk ≡ take (end - at) (drop at s)
    → put_mid at (end - at) o chunk ≡ filled out (take end s)
chunk_more out s o chunk at end l h r f e =
    let before : length (take at s) ≡ at = length-take-le at s (omega arith) in
    let same : length o ≡ length out = ap length f ∙ length_filled out (take at s) (omega arith) in
    let long : length chunk ≡ end - at = ap length e ∙ length-take-le (end - at) (drop at s) (omega (arith, length-drop at s)) in
    let part : length (take (end - at) (drop at o)) ≡ end - at = length-take-le (end - at) (drop at o) (omega (arith, length-drop at o)) in
    let whole : at + (end - at) ≡ end = omega arith in
    filled_behind out o (take at s) chunk chunk at (end - at) before (omega arith) (omega arith) f (sym (filled_whole (take (end - at) (drop at o)) chunk (long ∙ sym part)))
    ∙ ap (λ (m : List ℕ). filled out (take at s ++ m)) e
    ∙ ap (filled out) (sym (take-add at (end - at) s))
    ∙ ap (λ (n : ℕ). filled out (take n s)) whole

pub loop-at-init : goal.loop-at-init
loop-at-init c = (omega arith, refl)

pub loop-at-preserved : goal.loop-at-preserved
loop-at-preserved c = (
  omega arith,
  chunk_more c.args.out.now c.args.src.now c.loop-at.out _ c.loop-at.at c.min-end.result c.requires (omega arith) (omega arith) c.loop-at.invariant.1 c.copy_chunk.ensures,
)

pub returns : goal.returns
returns c =
    let s = c.args.src.now in
    let end : c.loop-at.at ≡ length s = omega arith in
    c.loop-at.invariant.1 ∙ ap (filled c.args.out.now) (ap (λ (n : ℕ). take n s) end ∙ take-length s)
