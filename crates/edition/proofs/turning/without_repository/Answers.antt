-- What stands behind the Repository goes right behind the header.
use Rattle.std.proofs.Common.{ℕ, ◌≤◌, ◌++◌, ◌+◌, ◌-◌}
use Rattle.std.proofs.Common.{List, sym}
use Prim.Native.Nat.{◌-◌}
use mathlib.Core.Path.{◌≡◌, refl, ap, ◌∙◌}
use native.Mathlib.Omega.{arith}
use lib.ListN.{length, take, drop, length-append, length-drop}
use lib.Seq.{length-take-le, take_all}
use Rattle.xdr.specs.Buffer.{put}
use Rattle.xdr.proofs.Answered.{handed_on, opaque_taken, bytes_refused}
use Rattle.xdr.proofs.BufferLaws.{filled_none, put_next}
use Rattle.xdr.proofs.FillingLaws.{fills_refused, fills_short, fills_given}
use Rattle.edition.proofs.TurnLaws.{unread_behind, read_behind}
use Rattle.edition.proofs.turning.without_repository.Goals as goal

-- how long the message is without its Repository
turned-size : (m : List ℕ) (at : ℕ) → 4 ≤ length m → length (take 4 m ++ drop at m) ≡ 4 + (length m - at)
turned-size m at h = omega (arith, length-append (take 4 m) (drop at m), length-take-le 4 m h, length-drop at m)

pub returns-in_err-rest : goal.returns-in_err-rest
returns-in_err-rest c =
    rw (handed_on c.from_residual.result c.from_residual.ensures.1) (fills_refused c.args.out.now (unread_behind c.args.m.now (bytes_refused c.read_bytes.ensures c.in_err-rest.was)) refl)

pub overflow_sub-n : goal.overflow_sub-n
overflow_sub-n c = (opaque_taken c.read_bytes.ensures c.in_ok-rest.was).room

pub returns-then-out-n : goal.returns-then-out-n
returns-then-out-n c =
    let o = opaque_taken c.read_bytes.ensures c.in_ok-rest.was in
    fills_short c.args.out.now (read_behind c.args.m.now o.opaque_is) (omega (arith, turned-size c.args.m.now c.in_ok-rest.rest c.requires)) c.refused.ensures

pub slice_bounds-put_raw-count-2 : goal.slice_bounds-put_raw-count-2
slice_bounds-put_raw-count-2 c = (opaque_taken c.read_bytes.ensures c.in_ok-rest.was).room

pub slice_bounds-put_raw-start-2 : goal.slice_bounds-put_raw-start-2
slice_bounds-put_raw-start-2 c = (opaque_taken c.read_bytes.ensures c.in_ok-rest.was).room

pub returns : goal.returns
returns c =
    let o = opaque_taken c.read_bytes.ensures c.in_ok-rest.was in
    let a = c.args in
    let at = c.in_ok-rest.rest in
    let rest = drop at a.m.now in
    let long = turned-size a.m.now at c.requires in
    let part : take (length a.m.now - at) rest ≡ rest = take_all (length a.m.now - at) rest (omega (arith, length-drop at a.m.now)) in
    let header = put_next (filled_none a.out.now) (take 4 a.m.now) (length-take-le 4 a.m.now c.requires) (omega arith) c.put_raw.ensures.1 in
    fills_given a.out.now (read_behind a.m.now o.opaque_is) (omega arith) (sym long)
    (put_next header rest (length-drop at a.m.now) (omega arith)
    (c.put_raw-2.ensures.1 ∙ ap (put c.put_raw.new.out 4) part)).fills
