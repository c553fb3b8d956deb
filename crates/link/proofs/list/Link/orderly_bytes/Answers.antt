-- The entry of each turn can stand before the last one.
use Prim.Native.Nat.{◌-◌}
use mathlib.Core.Bool.{true}
use mathlib.Core.Path.{◌≡◌, sym, ◌∙◌}
use native.Mathlib.Omega.{arith}
use lib.ListN.{get_or}
use lib.Seq.{slice_empty}
use borrow.Author.Rules.{rules}
use Rattle.link.specs.Requests.{blank, stands_before}
use Rattle.link.specs.declared.request.Request.{Request}
use Rattle.link.proofs.OwnedArray.{unmapped}
use Rattle.link.proofs.RequestLaws.{passed_none, passed_more, passed_not, entry_length}
use Rattle.link.proofs.LinkLaws.{tally_done, tally_shape, tally_not, shape_count}
use Rattle.link.proofs.list.Link.orderly_bytes.Goals as goal

pub returns-then-not-shape_fits : goal.returns-then-not-shape_fits
returns-then-not-shape_fits c = tally_shape c.args.self (sym c.shape_fits.ensures ∙ c.if-not-shape_fits.true)

pub loop-i-init : goal.loop-i-init
loop-i-init c =
    let q = c.args.self in
    let n = shape_count q (sym c.shape_fits.ensures ∙ c.if-not-shape_fits.false) in
    (n, (search (rules, unmapped), (omega arith, passed_none _ _ (slice_empty q.count q.entries))))

pub returns-then-not-stands_before : goal.returns-then-not-stands_before
returns-then-not-stands_before c =
    let h = c.loop-i in
    let q = c.args.self in
    tally_not q
    (passed_not q.entries q.count h.i q.next h.next h.sum (omega arith) (omega arith) (omega arith) h.invariant.1.1.1
    (sym c.stands_before.ensures ∙ c.if-not-stands_before.true))

pub overflow_add-sum : goal.overflow_add-sum
overflow_add-sum c =
    let e : Request = get_or c.args.self.entries (c.loop-i.i - 1) blank in
    omega (arith, entry_length e c.loop-i.next (sym c.stands_before.ensures ∙ c.if-not-stands_before.false))

pub loop-i-preserved : goal.loop-i-preserved
loop-i-preserved c =
    let h = c.loop-i in
    let q = c.args.self in
    let e : Request = get_or q.entries (h.i - 1) blank in
    let fit : stands_before e h.next ≡ true = sym c.stands_before.ensures ∙ c.if-not-stands_before.false in
    let v = h.invariant in
    (v.0, (v.1.0, (omega (arith, entry_length e h.next fit), passed_more q.entries q.count h.i q.next h.next h.sum (omega arith) (omega arith) (omega arith) v.1.1.1 fit)))

pub returns : goal.returns
returns c =
    let h = c.loop-i in
    tally_done c.args.self h.i h.next h.sum c.loop-i-test.false (sym c.shape_fits.ensures ∙ c.if-not-shape_fits.false) h.invariant.1.1.1
