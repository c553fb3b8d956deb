use Rattle.std.proofs.Common.{ℕ, List, ◌≡◌, sym, refl, ap, ◌∙◌, arith}
use Rattle.std.specs.Option.{ok_or}
use Rattle.std.specs.Prelude.{Some, None, Ok, Err}
use Rattle.std.specs.Result.{result_ok}
use Rattle.std.specs.declared.option.Option.{Option}
use Rattle.std.specs.declared.result.Result.{Result}
use Rattle.xdr.specs.declared.answer.Refusal.{Refusal}
use Rattle.xdr.specs.Answers.{at_start}
use Rattle.xdr.proofs.Answered.{handed_on}
use Rattle.record.specs.Outline.{outline_of}
use Rattle.record.specs.declared.outline.RecordFields.{RecordFields}
use Rattle.walker.specs.Walk.{step_at}
use Rattle.walker.proofs.WalkLaws.{Come, table_bad, come_start, come_past, come_end, come_on, come_grows, ended, found}
use Rattle.walker.proofs.step_at.Goals as goal

-- what stands where the walk has come to the place that is asked for
here : {t : List ℕ} {at place : ℕ} → Come t at place → place ≡ at → (x : Option RecordFields) → x ≡ outline_of t at → Ok x ≡ step_at t at
here l same None e = ended l same e refl
here l same (Some f) e = found l same e refl

pub returns-then-not-is_good : goal.returns-then-not-is_good
returns-then-not-is_good c = table_bad c.args.table.now c.args.at (sym c.is_good.ensures ∙ c.if-not-is_good.true)

pub loop-place-init : goal.loop-place-init
loop-place-init c = come_start c.args.table.now c.args.at (λ i. (c.type_inv.table i).fits) (sym c.is_good.ensures ∙ c.if-not-is_good.false)

pub returns-in_err-place : goal.returns-in_err-place
returns-in_err-place c =
    let none = c.ok_or.ensures.ok_part ∙ ap result_ok c.in_err-place.was in
    let is : ◌≡◌ {A = Result RecordFields Refusal} (Err c.in_err-place.field-0.0) (Err (at_start 15)) = sym c.in_err-place.was ∙ c.ok_or.ensures.value ∙ ap (λ (o : Option RecordFields). ok_or o (at_start 15)) none in
    let number : c.in_err-place.field-0.0 ≡ at_start 15 = cc in
    handed_on c.from_residual.result c.from_residual.ensures.1 ∙ ap Err number ∙ come_end c.loop-place.invariant c.loop-place-test.true c.outline_at.ensures none

pub loop-place-smaller : goal.loop-place-smaller
loop-place-smaller c =
    omega (arith, c.loop-place-test.true, come_grows c.loop-place.invariant c.loop-place-test.true c.outline_at.ensures (c.ok_or.ensures.ok_part ∙ ap result_ok c.in_ok-place.was))

pub loop-place-preserved : goal.loop-place-preserved
loop-place-preserved c = come_on c.loop-place.invariant c.loop-place-test.true c.outline_at.ensures (c.ok_or.ensures.ok_part ∙ ap result_ok c.in_ok-place.was)

pub returns-then-place-at : goal.returns-then-place-at
returns-then-place-at c = come_past c.loop-place.invariant (omega (arith, c.if-place-at.true, c.loop-place-test.false))

pub returns : goal.returns
returns c = here c.loop-place.invariant (omega (arith, c.if-place-at.false)) c.outline_at-2.result c.outline_at-2.ensures
