-- One Length more each turn; and the first entries, as many as there are outstanding requests, are those.
use mathlib.Core.Path.{◌≡◌, refl, sym, ap, ◌∙◌}
use mathlib.Core.List.{List}
use native.Mathlib.Omega.{arith}
use borrow.Author.Rules.{rules}
use lib.ListN.{length, take}
use lib.Seq.{take_all}
use Rattle.link.specs.Requests.{total}
use Rattle.link.specs.OneLink.{outstanding}
use Rattle.link.specs.declared.request.Request.{Request}
use Rattle.link.proofs.OwnedArray.{unmapped}
use Rattle.link.proofs.RequestLaws.{counted_first, counted_sixteen, total_next}
use Rattle.link.proofs.list.Link.outstanding_bytes.Goals as goal

pub loop-e-init : goal.loop-e-init
loop-e-init c =
    let q = c.args.self in
    let long : length q.entries ≡ 16 = search (rules, unmapped) in
    let few = counted_sixteen q.count q.entries refl long in
    let same : take c.outstanding.result q.entries ≡ outstanding q = ap (λ k. take k q.entries) c.outstanding.ensures ∙ sym (counted_first q.count q.entries) in
    (rw same few, (omega arith, refl))

pub overflow_add-sum : goal.overflow_add-sum
overflow_add-sum c = omega arith

pub loop-e-preserved : goal.loop-e-preserved
loop-e-preserved c =
    let more = total_next (take c.outstanding.result c.args.self.entries) c.loop-e.e-index c.loop-e-test.true in
    (c.loop-e.invariant.0, (omega arith, omega arith))

pub returns : goal.returns
returns c =
    let q = c.args.self in
    let rs : List Request = take c.outstanding.result q.entries in
    let same : rs ≡ outstanding q = ap (λ k. take k q.entries) c.outstanding.ensures ∙ sym (counted_first q.count q.entries) in
    c.loop-e.invariant.1.1 ∙ ap total (take_all c.loop-e.e-index rs (omega arith) ∙ same)
