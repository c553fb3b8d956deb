use Rattle.std.proofs.Common.{ℕ, List, length, sym, ap, ◌∙◌, arith}
use Rattle.order.specs.Order.{compare_lists}
use Rattle.accept.specs.Steps.Slots.{slot_of}
use Rattle.accept.proofs.SlotLaws.{slot_behind, slot_repeated, slot_further, slot_first}
use Rattle.accept.proofs.slot.slot_of.Goals as goal

pub returns-in-Less : goal.returns-in-Less
returns-in-Less c =
    let name = c.name_at-name.result.now in
    let told = c.compare_bytes.ensures ∙ ap (λ (l : List ℕ). compare_lists l name) c.name_at.ensures in
    sym (c.loop-j.invariant ∙ slot_behind c.args.s.now c.args.places.now name (omega (arith, c.loop-j-test.true)) told c.in-Less.is)
    ∙ ap (slot_of c.args.s.now c.args.places.now (length c.args.places.now)) c.name_at-name.ensures

pub returns-in-Equal : goal.returns-in-Equal
returns-in-Equal c =
    let name = c.name_at-name.result.now in
    let told = c.compare_bytes.ensures ∙ ap (λ (l : List ℕ). compare_lists l name) c.name_at.ensures in
    sym (c.loop-j.invariant ∙ slot_repeated c.args.s.now c.args.places.now name (omega (arith, c.loop-j-test.true)) told c.in-Equal.is)
    ∙ ap (slot_of c.args.s.now c.args.places.now (length c.args.places.now)) c.name_at-name.ensures

pub loop-j-preserved : goal.loop-j-preserved
loop-j-preserved c =
    let name = c.name_at-name.result.now in
    let told = c.compare_bytes.ensures ∙ ap (λ (l : List ℕ). compare_lists l name) c.name_at.ensures in
    c.loop-j.invariant ∙ slot_further c.args.s.now c.args.places.now name (omega (arith, c.loop-j-test.true)) told c.in-Greater.is

pub returns : goal.returns
returns c =
    let name = c.name_at-name.result.now in
    sym (c.loop-j.invariant ∙ slot_first c.args.s.now c.args.places.now name (omega (arith, c.loop-j-test.false)))
    ∙ ap (slot_of c.args.s.now c.args.places.now (length c.args.places.now)) c.name_at-name.ensures
