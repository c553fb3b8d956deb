-- The admission refuses it, or the peer's link issues under the common total.
use mathlib.Core.Path.{◌≡◌, sym, ◌∙◌}
use borrow.Author.Rules.{rules}
use lib.ListN.{length}
use Rattle.message.specs.declared.edition.Edition.TheVariants as E
use Rattle.message_write.specs.Writing.{request_bytes}
use Rattle.queue_lent.proofs.LentLaws.{may, share_there, issue_refused, issue_made}
use Rattle.queue_lent.proofs.calls.issue.Goals as goal

pub returns-in-Err : goal.returns-in-Err
returns-in-Err c =
    let a = c.args in
    let long : length a.words.now ≡ 140 = search rules in
    issue_refused a.words.now a.hashes.now long a.peer (request_bytes E.New a.repository.now a.name.now a.offset a.size a.hash.now) a.size a.hash.now a.out.now
    (sym c.in-Err.is ∙ c.admission_in.ensures) c.next_of.ensures

pub link_of-l-requires : goal.link_of-l-requires
link_of-l-requires c = share_there c.args.words.now c.args.hashes.now (search rules) c.args.peer (sym c.in-Ok.is ∙ c.admission_in.ensures)

pub store-requires : goal.store-requires
store-requires c = share_there c.args.words.now c.args.hashes.now (search rules) c.args.peer (sym c.in-Ok.is ∙ c.admission_in.ensures)

pub returns : goal.returns
returns c =
    let a = c.args in
    let long : length a.words.now ≡ 140 = search rules in
    issue_made a.words.now a.hashes.now long a.peer (request_bytes E.New a.repository.now a.name.now a.offset a.size a.hash.now) a.size a.hash.now a.out.now
    (may a.words.now a.hashes.now long a.peer (sym c.in-Ok.is ∙ c.admission_in.ensures)) c.link_of-l.ensures c.issue-id.ensures c.store.ensures c.keep_for.ensures
