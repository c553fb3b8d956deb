-- The requests from i on are in order, and their Lengths are summed.
use Prim.Native.Nat.{ℕ, ◌+◌, ◌-◌, ◌≤◌}
use mathlib.Core.Bool.{true}
use mathlib.Core.Path.{◌≡◌, sym, ap, subst, ◌∙◌}
use native.Mathlib.Omega.{arith}
use lib.ListN.{length, get_or}
use lib.Seq.{slice, slice_empty}
use Rattle.link.specs.Requests.{blank, stands_before}
use Rattle.link.specs.declared.request.Request.{Request}
use Rattle.link.specs.declared.list.Link.{Link}
use Rattle.link.proofs.RequestLaws.{Passed, passed_none, passed_more, passed_not, entry_length}
use Rattle.link.proofs.LinkLaws.{tally_done, tally_shape, tally_not, shape_count}
use Rattle.queue_lent.specs.Words.{link_in, entry_at}
use Rattle.queue_lent.proofs.WordLaws.{entries_long, entry_at_lem, count_is, next_is, shape_is}
use Rattle.queue_lent.proofs.words.tally.Goals as goal

pub returns-then-not-shape_fits : goal.returns-then-not-shape_fits
returns-then-not-shape_fits c =
    let ws = c.args.words.now in
    tally_shape (link_in ws) (shape_is ws ∙ sym c.shape_fits.ensures ∙ c.if-not-shape_fits.true)

pub loop-i-init : goal.loop-i-init
loop-i-init c =
    let ws = c.args.words.now in
    let q : Link = link_in ws in
    let n : q.count ≤ 16 = shape_count q (shape_is c.args.words.now ∙ sym c.shape_fits.ensures ∙ c.if-not-shape_fits.false) in
    let e : q.count ≡ get_or ws 2 0 = count_is ws in
    let none : Passed (slice q.count q.count q.entries) q.next q.next 0 = passed_none _ _ (slice_empty q.count q.entries) in
    let here : Passed (slice (get_or ws 2 0) q.count q.entries) q.next q.next 0 = subst (λ (k : ℕ). Passed (slice k q.count q.entries) q.next q.next 0) e none in
    (omega arith, (n, (c.requires, (omega arith, subst (λ (k : ℕ). Passed (slice (get_or ws 2 0) q.count q.entries) q.next k 0) (next_is ws) here))))

pub returns-then-not-stands_before : goal.returns-then-not-stands_before
returns-then-not-stands_before c =
    let h = c.loop-i in
    let ws = c.args.words.now in
    let q : Link = link_in ws in
    let l : length q.entries ≡ 16 = entries_long ws in
    tally_not q
    (passed_not q.entries q.count h.i q.next h.next h.sum (omega arith) (omega arith) (omega arith) h.invariant.1.1.1.1
    (ap (λ (e : Request). stands_before e h.next) (entry_at_lem ws (h.i - 1) (omega arith)) ∙ sym c.stands_before.ensures ∙ c.if-not-stands_before.true))

pub overflow_add-sum : goal.overflow_add-sum
overflow_add-sum c =
    let fit : stands_before (entry_at c.args.words.now (c.loop-i.i - 1)) c.loop-i.next ≡ true = sym c.stands_before.ensures ∙ c.if-not-stands_before.false in
    omega (arith, entry_length (entry_at c.args.words.now (c.loop-i.i - 1)) c.loop-i.next fit)

pub loop-i-preserved : goal.loop-i-preserved
loop-i-preserved c =
    let h = c.loop-i in
    let ws = c.args.words.now in
    let q : Link = link_in ws in
    let fit : stands_before (entry_at ws (h.i - 1)) h.next ≡ true = sym c.stands_before.ensures ∙ c.if-not-stands_before.false in
    let v = h.invariant in
    let l : length q.entries ≡ 16 = entries_long ws in
    let e : get_or q.entries (h.i - 1) blank ≡ entry_at ws (h.i - 1) = entry_at_lem ws (h.i - 1) (omega arith) in
    let more = passed_more q.entries q.count h.i q.next h.next h.sum (omega arith) (omega arith) (omega arith) v.1.1.1.1
    (ap (λ (x : Request). stands_before x h.next) e ∙ fit) in
    (omega arith, (v.1.0, (v.1.1.0, (omega (arith, entry_length (entry_at ws (h.i - 1)) h.next fit), subst (λ (x : Request). Passed (slice (h.i - 1) q.count q.entries) q.next x.id (h.sum + x.size)) e more))))

pub returns : goal.returns
returns c =
    let h = c.loop-i in
    let ws = c.args.words.now in
    tally_done (link_in ws) h.i h.next h.sum c.loop-i-test.false (shape_is c.args.words.now ∙ sym c.shape_fits.ensures ∙ c.if-not-shape_fits.false) h.invariant.1.1.1.1
