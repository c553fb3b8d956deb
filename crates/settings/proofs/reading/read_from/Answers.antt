-- A field at fault is refused, and behind one at no fault reading goes on.
use Prim.Native.Nat.{ℕ, ◌+◌, ◌-◌, ◌≤◌}
use mathlib.Core.List.{List}
use mathlib.Core.Path.{◌≡◌, sym, ap, ◌∙◌}
use native.Mathlib.Omega.{arith}
use lib.ListN.{length, take, drop, get_or, length-drop}
use lib.Seq.{length-take-le}
use Rattle.std.specs.Prelude.{None}
use Rattle.xdr.specs.Reading.{refused}
use Rattle.settings.specs.Field.{size_of, contents_of, wrong, fault}
use Rattle.settings.specs.Reading.{read_from, settings_answer}
use Rattle.settings.specs.Steps.{unless_0}
use Rattle.settings.specs.declared.answer.Settings.{Settings}
use Rattle.settings.proofs.FieldLaws.{no_fault, contents_part, nothing_wrong, something_wrong}
use Rattle.settings.proofs.ReadLaws.{next_good, next_faulty, at_end}
use Rattle.settings.proofs.reading.read_from.Goals as goal

-- a field at no fault is whole, in order, and its contents are right
record Good (s : List ℕ) (at least : ℕ) : Type 0 where
  none : fault least (get_or s at 0) (drop (at + 1) s) ≡ 0
  room : 3 + size_of (drop (at + 1) s) ≤ length s - at
  whole : 2 + size_of (drop (at + 1) s) ≤ length (drop (at + 1) s)
  right : wrong (get_or s at 0) (contents_of (drop (at + 1) s)) ≡ 0

good : (s : List ℕ) (at least : ℕ) → unless_0 (fault least (get_or s at 0) (drop (at + 1) s)) ≡ None → Good s at least
good s at least e =
    let z = nothing_wrong (fault least (get_or s at 0) (drop (at + 1) s)) e in
    let g = no_fault least (get_or s at 0) (drop (at + 1) s) z in
    record { none = z; room = omega (arith, g.0, length-drop (at + 1) s); whole = g.0; right = g.2 }

pub returns-in-Some : goal.returns-in-Some
returns-in-Some c =
    let s = c.args.s.now in
    let k = c.loop-at in
    let w = something_wrong _ _ (sym c.fault_at.ensures ∙ c.in-Some.is) in
    ap settings_answer (sym (k.invariant.1 ∙ next_faulty s k.least k.at k.settings c.loop-at-test.true w.1 ∙ ap (λ (n : ℕ). refused n k.at) w.0))

pub size_at-requires : goal.size_at-requires
size_at-requires c = let g = good c.args.s.now c.loop-at.at c.loop-at.least (sym c.fault_at.ensures ∙ c.in_default.is) in omega (arith, g.room)

pub slice_bounds-with_field-end : goal.slice_bounds-with_field-end
slice_bounds-with_field-end c =
    let g = good c.args.s.now c.loop-at.at c.loop-at.least (sym c.fault_at.ensures ∙ c.in_default.is) in
    omega (arith, g.room, c.size_at.ensures)

pub with_field-settings-requires : goal.with_field-settings-requires
with_field-settings-requires c =
    let s = c.args.s.now in
    let at = c.loop-at.at in
    let g = good s at c.loop-at.least (sym c.fault_at.ensures ∙ c.in_default.is) in
    let size = c.size_at.ensures in
    let n = c.size_at.result in
    let long = length-take-le (at + 3 + n - (at + 3)) (drop (at + 3) s) (simp length-drop (omega (arith, g.room, size))) in
    (ap (wrong (get_or s at 0)) (contents_part s at n size) ∙ g.right, omega (arith, long))

pub loop-at-preserved : goal.loop-at-preserved
loop-at-preserved c =
    let s = c.args.s.now in
    let k = c.loop-at in
    let g = good s k.at k.least (sym c.fault_at.ensures ∙ c.in_default.is) in
    let size = c.size_at.ensures in
    let n = c.size_at.result in (
      omega (arith, g.room, size),
      k.invariant.1
          ∙ next_good s k.least k.at k.settings c.loop-at-test.true g.none n size (omega (arith, g.whole, size)) (take (k.at + 3 + n - (k.at + 3)) (drop (k.at + 3) s)) (contents_part s k.at n size)
          ∙ ap (λ (so : Settings). read_from (drop (k.at + 3 + n) s) 0 (get_or s k.at 0 + 1) (k.at + 3 + n) so) (sym c.with_field-settings.ensures),
    )

pub returns : goal.returns
returns c =
    let k = c.loop-at in
    ap settings_answer (sym (k.invariant.1 ∙ at_end c.args.s.now k.least k.at k.settings c.loop-at-test.false))
