-- The window or the limit is full, or the Request is written.
use mathlib.Core.Path.{sym, ◌∙◌}
use Rattle.message.specs.declared.edition.Edition.TheVariants as E
use Rattle.message_write.specs.Writing.{request_bytes}
use Rattle.link.proofs.IssueLaws.{issue_barred, issue_written, unfull}
use Rattle.link.proofs.list.Link.issue.Goals as goal

pub returns-in-Some : goal.returns-in-Some
returns-in-Some c =
    let a = c.args in
    issue_barred a.held a.limit a.self (request_bytes E.New a.repository.now a.name.now a.offset a.size a.hash.now) a.size a.out.now _ (sym c.in-Some.is ∙ c.fault_within.ensures) _
    c.write_request-answer.ensures.answered c.barred.ensures

pub issued-requires : goal.issued-requires
issued-requires c =
    let a = c.args in
    (unfull a.held a.limit a.self a.size (sym c.in_default.is ∙ c.fault_within.ensures)).1

pub returns : goal.returns
returns c =
    let a = c.args in
    issue_written a.held a.limit a.self (request_bytes E.New a.repository.now a.name.now a.offset a.size a.hash.now) a.size a.out.now (sym c.in_default.is ∙ c.fault_within.ensures)
    c.write_request-filling.ensures c.issued.ensures
