use Prim.Native.Nat.{◌<◌}
use native.Mathlib.Omega.{arith}
use Rattle.table.proofs.PassLaws.{counted_step, counted_all}
use Rattle.merge.proofs.NotingLaws.{noting_all, noting_within, noting_more}
use Rattle.merge.proofs.LoopLaws.{starting_noting, took, none_left, after}
use Rattle.merge.proofs.merging.note_records.Goals as goal

pub loop-step-init : goal.loop-step-init
loop-step-init c =
    let q = starting_noting c.args.a.now c.args.b.now (λ i. (c.type_inv.a i).fits) (λ i. (c.type_inv.b i).fits) c.requires.0 c.requires.1 c.args.notes.now c.requires.2 in
    (q.0, q.1, (omega arith, omega arith), q.2)

pub returns : goal.returns
returns c =
    let l = c.loop-step.invariant in
    let none = none_left l.0 c.next_at.ensures c.in_default.is in
    noting_all l.3 none (counted_all l.1 none)

pub overflow_sub-size : goal.overflow_sub-size
overflow_sub-size c = let t = took c.loop-step.invariant.0 c.next_at.ensures c.in-Some.is in omega (arith, t.sized)

pub overflow_add-size : goal.overflow_add-size
overflow_add-size c =
    let t = took c.loop-step.invariant.0 c.next_at.ensures c.in-Some.is in
    let m = c.loop-step.invariant in
    omega (arith, t.sized, t.grows, t.left.inside, t.right.inside, m.2, m.0.short_left, m.0.short_right)

pub overflow_add-size-in-Some : goal.overflow_add-size-in-Some
overflow_add-size-in-Some c =
    let t = took c.loop-step.invariant.0 c.next_at.ensures c.in-Some.is in
    let m = c.loop-step.invariant in
    omega (arith, t.grows, t.left.inside, t.right.inside, m.2, m.0.short_left, m.0.short_right)

pub overflow_add-size-in-Some-2 : goal.overflow_add-size-in-Some-2
overflow_add-size-in-Some-2 c =
    let n = c.note.ensures in
    omega (arith, noting_within c.loop-step.invariant.3 c.in-Some.step n.0 n.1)

pub loop-step-smaller : goal.loop-step-smaller
loop-step-smaller c = let t = took c.loop-step.invariant.0 c.next_at.ensures c.in-Some.is in omega (arith, t.some, t.grows, t.left.inside, t.right.inside)

pub loop-step-preserved : goal.loop-step-preserved
loop-step-preserved c =
    let t = took c.loop-step.invariant.0 c.next_at.ensures c.in-Some.is in
    let m = c.loop-step.invariant in
    let s = c.in-Some.step in
    let n = c.note.ensures in
    let some : s.start < s.end = omega (arith, t.sized, t.some) in (
      after m.0 t,
      counted_step m.1 s.start s.end t.merges t.sized,
      (omega (arith, m.2, t.sized, t.some), omega (arith, m.2, t.sized, t.grows)),
      noting_more m.3 s n.0 n.1 t.merges t.bytes_are some,
    )
