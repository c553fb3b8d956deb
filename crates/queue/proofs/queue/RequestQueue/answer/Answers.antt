-- The admission refuses it, or the peer's link is answered.
use mathlib.Core.Path.{sym, ◌∙◌}
use native.Mathlib.Omega.{arith}
use Rattle.queue.proofs.QueueLaws.{held_tells, peer_facts}
use Rattle.queue.proofs.CallLaws.{answer_stopped, answer_done}
use Rattle.queue.proofs.queue.RequestQueue.answer.Goals as goal

pub returns-in-Err : goal.returns-in-Err
returns-in-Err c =
    let a = c.args in
    answer_stopped a.self a.peer a.message.now (sym c.in-Err.is ∙ c.admission.ensures)

pub overflow_sub-at : goal.overflow_sub-at
overflow_sub-at c =
    let h = held_tells c.args.self c.args.peer _ (sym c.in_default.is ∙ c.admission.ensures) in
    (peer_facts c.args.peer h.may.peer).0

pub bounds-self-at : goal.bounds-self-at
bounds-self-at c =
    let h = held_tells c.args.self c.args.peer _ (sym c.in_default.is ∙ c.admission.ensures) in
    let f = peer_facts c.args.peer h.may.peer in
    omega arith

pub returns : goal.returns
returns c =
    let a = c.args in
    let h = held_tells a.self a.peer _ (sym c.in_default.is ∙ c.admission.ensures) in
    answer_done a.self a.peer a.message.now h.may c.answer-release.ensures c.settle_for-arrival.ensures
