-- The admission refuses it, or the peer's link is emptied.
use mathlib.Core.Path.{◌≡◌, sym, ◌∙◌}
use borrow.Author.Rules.{rules}
use lib.ListN.{length}
use Rattle.xdr.proofs.Answered.{handed_on}
use Rattle.queue_lent.proofs.LentLaws.{may, share_there, drop_refused, drop_made}
use Rattle.queue_lent.proofs.calls.drop_link.Goals as goal

pub returns-in_err-admission_in : goal.returns-in_err-admission_in
returns-in_err-admission_in c =
    let a = c.args in
    let long : length a.words.now ≡ 140 = search rules in
    rw (handed_on c.from_residual.result c.from_residual.ensures.1) (drop_refused a.words.now a.hashes.now long a.peer (sym c.in_err-admission_in.was ∙ c.admission_in.ensures))

pub link_of-l-requires : goal.link_of-l-requires
link_of-l-requires c = share_there c.args.words.now c.args.hashes.now (search rules) c.args.peer (sym c.in_ok-admission_in.was ∙ c.admission_in.ensures)

pub store-requires : goal.store-requires
store-requires c = share_there c.args.words.now c.args.hashes.now (search rules) c.args.peer (sym c.in_ok-admission_in.was ∙ c.admission_in.ensures)

pub returns : goal.returns
returns c =
    let a = c.args in
    let long : length a.words.now ≡ 140 = search rules in
    drop_made a.words.now a.hashes.now long a.peer (may a.words.now a.hashes.now long a.peer (sym c.in_ok-admission_in.was ∙ c.admission_in.ensures)) c.link_of-l.ensures c.emptied-gone.ensures c.store.ensures c.forget_for.ensures
