-- The admission refuses it, or the peer's link issues under the common total.
use mathlib.Core.Path.{sym, ◌∙◌}
use native.Mathlib.Omega.{arith}
use Rattle.message.specs.declared.edition.Edition.TheVariants as E
use Rattle.message_write.specs.Writing.{request_bytes}
use Rattle.queue.proofs.QueueLaws.{held_tells, peer_facts}
use Rattle.queue.proofs.CallLaws.{issue_stopped, issue_done}
use Rattle.queue.proofs.queue.RequestQueue.issue.Goals as goal

pub returns-in-Err : goal.returns-in-Err
returns-in-Err c =
    let a = c.args in
    issue_stopped a.self a.peer (request_bytes E.New a.repository.now a.name.now a.offset a.size a.hash.now) a.size a.hash.now a.out.now
    (sym c.in-Err.is ∙ c.admission.ensures) c.next_of.ensures

pub overflow_sub-at : goal.overflow_sub-at
overflow_sub-at c =
    let h = held_tells c.args.self c.args.peer _ (sym c.in-Ok.is ∙ c.admission.ensures) in
    (peer_facts c.args.peer h.may.peer).0

pub bounds-self-at : goal.bounds-self-at
bounds-self-at c =
    let h = held_tells c.args.self c.args.peer _ (sym c.in-Ok.is ∙ c.admission.ensures) in
    let f = peer_facts c.args.peer h.may.peer in
    omega arith

pub returns : goal.returns
returns c =
    let a = c.args in
    issue_done a.self a.peer (request_bytes E.New a.repository.now a.name.now a.offset a.size a.hash.now) a.size a.hash.now a.out.now
    (held_tells a.self a.peer _ (sym c.in-Ok.is ∙ c.admission.ensures)) c.issue-id.ensures c.keep_for.ensures
