-- The admission refuses it, or the peer's link is answered.
use mathlib.Core.Path.{◌≡◌, sym, ◌∙◌}
use native.Mathlib.Omega.{arith}
use borrow.Author.Rules.{rules}
use lib.ListN.{length}
use Rattle.xdr.proofs.Answered.{handed_on}
use Rattle.queue_lent.proofs.LentLaws.{may, share_there, answer_refused, answer_made}
use Rattle.queue_lent.proofs.calls.answer.Goals as goal

pub returns-in_err-admission_in : goal.returns-in_err-admission_in
returns-in_err-admission_in c =
    let a = c.args in
    let long : length a.words.now ≡ 140 = search rules in
    rw (handed_on c.from_residual.result c.from_residual.ensures.1) (answer_refused a.words.now a.hashes.now long a.peer a.message.now (sym c.in_err-admission_in.was ∙ c.admission_in.ensures))

pub link_of-waiting-requires : goal.link_of-waiting-requires
link_of-waiting-requires c =
    let a = c.args in
    let long : length a.words.now ≡ 140 = search rules in
    let f = share_there a.words.now a.hashes.now long a.peer (sym c.in_ok-admission_in.was ∙ c.admission_in.ensures) in
    (omega arith, omega arith)

pub store-requires : goal.store-requires
store-requires c = share_there c.args.words.now c.args.hashes.now (search rules) c.args.peer (sym c.in_ok-admission_in.was ∙ c.admission_in.ensures)

pub returns : goal.returns
returns c =
    let a = c.args in
    let long : length a.words.now ≡ 140 = search rules in
    answer_made a.words.now a.hashes.now long a.peer a.message.now
    (may a.words.now a.hashes.now long a.peer (sym c.in_ok-admission_in.was ∙ c.admission_in.ensures)) c.link_of-waiting.ensures c.answer-release.ensures c.store.ensures c.settle_for.ensures
