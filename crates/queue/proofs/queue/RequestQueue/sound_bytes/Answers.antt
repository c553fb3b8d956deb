-- One link more each turn.
use Prim.Native.Nat.{◌<◌, ◌≤◌}
use Rattle.std.specs.Prelude.{Some, None}
use mathlib.Core.Path.{◌≡◌, refl, sym, ◌∙◌}
use mathlib.Core.List.{[]}
use native.Mathlib.Omega.{arith}
use borrow.Author.Rules.{rules}
use lib.ListN.{length, get_or}
use Rattle.link.proofs.OwnedArray.{unmapped}
use Rattle.link.specs.Steps.{orderly_bytes}
use Rattle.queue.specs.Queue.{no_link}
use Rattle.queue.proofs.QueueLaws.{Passed, passed_more, passed_not, passed_all, bytes_most, unsound_order, unsound_bytes, sound_told}
use Rattle.queue.proofs.queue.RequestQueue.sound_bytes.Goals as goal

pub loop-l-init : goal.loop-l-init
loop-l-init c = (search (rules, unmapped), (omega arith, record { ordered = refl; summed = omega arith }))

pub returns-in_err-n : goal.returns-in_err-n
returns-in_err-n c =
    let q = c.args.self in
    let below : c.loop-l.l-index < length q.links = omega arith in
    let none : None ≡ orderly_bytes (get_or q.links c.loop-l.l-index no_link) = sym c.in_err-n.was ∙ c.orderly_bytes.ensures in
    c.from_residual.ensures ∙ unsound_order q (passed_not no_link q.links c.loop-l.l-index c.loop-l.sum below c.loop-l.invariant.1.1 none)

pub overflow_add-sum : goal.overflow_add-sum
overflow_add-sum c =
    let few : c.in_ok-n.n ≤ 2097152 = bytes_most _ _ (sym c.in_ok-n.was ∙ c.orderly_bytes.ensures) in
    omega arith

pub loop-l-preserved : goal.loop-l-preserved
loop-l-preserved c =
    let below : c.loop-l.l-index < length c.args.self.links = omega arith in
    let is : Some c.in_ok-n.n ≡ orderly_bytes (get_or c.args.self.links c.loop-l.l-index no_link) = sym c.in_ok-n.was ∙ c.orderly_bytes.ensures in
    let few : c.in_ok-n.n ≤ 2097152 = bytes_most _ _ is in
    (c.loop-l.invariant.0, (omega arith, passed_more no_link c.args.self.links c.loop-l.l-index c.loop-l.sum below c.in_ok-n.n c.loop-l.invariant.1.1 is))

pub returns-then-sum-gt-ALLOWANCE : goal.returns-then-sum-gt-ALLOWANCE
returns-then-sum-gt-ALLOWANCE c =
    let p : Passed c.args.self.links [] c.loop-l.sum = passed_all c.loop-l.l-index (omega arith) c.loop-l.invariant.1.1 in
    unsound_bytes c.args.self c.loop-l.sum p c.if-sum-gt-ALLOWANCE.true

pub returns : goal.returns
returns c =
    let p : Passed c.args.self.links [] c.loop-l.sum = passed_all c.loop-l.l-index (omega arith) c.loop-l.invariant.1.1 in
    sound_told c.args.self c.loop-l.sum p c.if-sum-gt-ALLOWANCE.false
