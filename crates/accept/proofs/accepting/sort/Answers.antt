use Rattle.std.proofs.Common.{ℕ, ◌+◌, ◌≤◌, ◌<◌, ◌≡◌, length, take, drop, refl, sym, ap, subst, ◌∙◌, arith, length-append, length-drop}
use Rattle.std.specs.Option.{ok_or}
use Rattle.std.specs.Prelude.{Err}
use Rattle.std.specs.Result.{result_ok}
use Rattle.std.specs.declared.option.Option.{Option}
use Rattle.std.specs.declared.result.Result.{Result}
use Rattle.std.proofs.lemmas.List.{length-take-le}
use Rattle.std.proofs.lemmas.Result.{err_from_is_err_and}
use Rattle.accept.specs.Steps.Sorted.{SortedTo}
use Rattle.accept.proofs.ShiftLaws.{inserted, inserted_long}
use Rattle.accept.proofs.SortLaws.{sorting_none, sorting_all, sorting_grows, sorting_few, sorting_repeated, sorting_slot, sorting_more}
use Rattle.accept.proofs.accepting.sort.Goals as goal

pub loop-f-init : goal.loop-f-init
loop-f-init c = (sorting_none c.args.s.now c.args.places.now c.requires.0, (omega arith, c.requires.1))

pub returns-in_err-j : goal.returns-in_err-j
returns-in_err-j c =
    let none = c.ok_or.ensures.ok_part ∙ ap result_ok c.in_err-j.was in
    let p = err_from_is_err_and c.from_residual.result c.from_residual.ensures.1 in
    let at : ◌≡◌ {A = Result ℕ ℕ} (Err c.in_err-j.field-0.0) (Err c.loop-f.at) = sym c.in_err-j.was ∙ c.ok_or.ensures.value ∙ ap (λ (o : Option ℕ). ok_or o c.loop-f.at) none in
    subst (SortedTo c.args.s.now c.loop-f.places) (sym (p.1 ∙ ap Err p.2 ∙ at)) (sorting_repeated c.requires.0 c.loop-f.invariant.0 c.outline_at.ensures c.in-Some.is refl c.slot_of.ensures none)

pub slice_bounds-insert_at-end : goal.slice_bounds-insert_at-end
slice_bounds-insert_at-end c = omega (arith, sorting_few c.requires.0 c.loop-f.invariant.0 c.outline_at.ensures c.in-Some.is, c.loop-f.invariant.1)

pub slice_bounds-insert_at-end-in-Some : goal.slice_bounds-insert_at-end-in-Some
slice_bounds-insert_at-end-in-Some c = omega (arith, length-take-le (c.loop-f.n + 1) c.loop-f.places (omega (arith, sorting_few c.requires.0 c.loop-f.invariant.0 c.outline_at.ensures c.in-Some.is, c.loop-f.invariant.1)))

pub insert_at-requires : goal.insert_at-requires
insert_at-requires c =
    let l = c.loop-f in
    let few = sorting_few c.requires.0 l.invariant.0 c.outline_at.ensures c.in-Some.is in
    let slot = sorting_slot c.requires.0 l.invariant.0 c.outline_at.ensures c.in-Some.is refl c.slot_of.ensures (c.ok_or.ensures.ok_part ∙ ap result_ok c.in_ok-j.was) in
    omega (arith, slot, length-take-le l.n l.places (omega (arith, l.invariant.1, few)), length-take-le (l.n + 1) l.places (omega (arith, few, l.invariant.1)))

pub loop-f-smaller : goal.loop-f-smaller
loop-f-smaller c = omega (arith, sorting_grows c.requires.0 c.loop-f.invariant.0 c.outline_at.ensures c.in-Some.is)

pub loop-f-preserved : goal.loop-f-preserved
loop-f-preserved c =
    let l = c.loop-f in
    let j = c.in_ok-j.j in
    let free = c.ok_or.ensures.ok_part ∙ ap result_ok c.in_ok-j.was in
    let few = sorting_few c.requires.0 l.invariant.0 c.outline_at.ensures c.in-Some.is in
    let n : l.n < length l.places = omega (arith, few, l.invariant.1) in
    let inside = sorting_slot c.requires.0 l.invariant.0 c.outline_at.ensures c.in-Some.is refl c.slot_of.ensures free in
    let slot : j ≤ l.n = omega (arith, inside, length-take-le l.n l.places (omega (arith, n))) in
    let long = inserted_long l.places l.n j l.at (take (l.n + 1) l.places) c.insert_at.new.places n slot refl c.insert_at.ensures in
    let put = inserted l.places l.n j l.at (take (l.n + 1) l.places) c.insert_at.new.places n slot refl c.insert_at.ensures (drop (l.n + 1) l.places) in (
      sorting_more c.requires.0 l.invariant.0 c.outline_at.ensures c.in-Some.is refl c.slot_of.ensures free put,
      (
        omega (arith, few),
        length-append c.insert_at.new.places (drop (l.n + 1) l.places) ∙ omega (arith, long, length-drop (l.n + 1) l.places, few, l.invariant.1),
      ),
    )

pub returns : goal.returns
returns c = (omega (arith, c.loop-f.invariant.1), sorting_all c.requires.0 c.loop-f.invariant.0 c.outline_at.ensures c.in_default.is)
