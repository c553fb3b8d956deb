use native.Mathlib.Omega.{arith}
use Rattle.table.proofs.PassLaws.{counted_step, counted_all}
use Rattle.merge.proofs.NotingLaws.{noting_all, noting_more}
use Rattle.accept.proofs.LoopLaws.{starting_noting, result_few, result_short, took, none_left, after}
use Rattle.accept.proofs.accepting.note_records.Goals as goal

pub loop-step-init : goal.loop-step-init
loop-step-init c =
    let a = c.args in
    starting_noting a.s.now a.places.now a.old.now a.update c.requires.0 (λ i. (c.type_inv.old i).fits) c.requires.1 a.notes.now c.requires.2 c.start_of-j.ensures

pub returns : goal.returns
returns c =
    let l = c.loop-step.invariant in
    let none = none_left l.0 c.place_of.ensures c.next_at.ensures c.in_default.is in
    noting_all l.2 none (counted_all l.1 none)

pub overflow_sub-size : goal.overflow_sub-size
overflow_sub-size c = omega (arith, (took c.loop-step.invariant.0 c.place_of.ensures c.next_at.ensures c.in-Some.is).sized)

pub overflow_add-size : goal.overflow_add-size
overflow_add-size c =
    let a = c.args in
    let t = took c.loop-step.invariant.0 c.place_of.ensures c.next_at.ensures c.in-Some.is in
    let s = c.in-Some.step in
    omega (arith, c.well_formed, (counted_step c.loop-step.invariant.1 s.start s.end t.is t.sized).sized, result_short a.s.now a.places.now a.old.now a.update c.requires.0 (λ i. (c.type_inv.old i).fits) c.requires.1)

pub overflow_add-size-in-Some : goal.overflow_add-size-in-Some
overflow_add-size-in-Some c =
    let a = c.args in
    let t = took c.loop-step.invariant.0 c.place_of.ensures c.next_at.ensures c.in-Some.is in
    let s = c.in-Some.step in
    omega (arith, (counted_step c.loop-step.invariant.1 s.start s.end t.is t.sized).counted, result_few a.s.now a.places.now a.old.now a.update c.requires.0 (λ i. (c.type_inv.old i).fits) c.requires.1)

pub loop-step-smaller : goal.loop-step-smaller
loop-step-smaller c = let t = took c.loop-step.invariant.0 c.place_of.ensures c.next_at.ensures c.in-Some.is in omega (arith, c.taken_by-i.ensures, t.grows, t.inside, t.right.inside)

pub loop-step-preserved : goal.loop-step-preserved
loop-step-preserved c =
    let t = took c.loop-step.invariant.0 c.place_of.ensures c.next_at.ensures c.in-Some.is in
    let l = c.loop-step.invariant in
    let s = c.in-Some.step in
    let n = c.note.ensures in
    (after l.0 c.taken_by-i.ensures t, counted_step l.1 s.start s.end t.is t.sized, noting_more l.2 s n.0 n.1 t.is t.bytes_are t.some)
