-- Options are told apart first, then by the message that was read.
use lib.Seq.{length-take-le}
use Rattle.std.proofs.Common.{ap}
use Rattle.std.specs.Prelude.{Ok}
use mathlib.Core.Path.{refl, sym, ◌∙◌}
use mathlib.Core.Bool.{true, false}
use native.Mathlib.Omega.{arith}
use Rattle.xdr.proofs.FillingLaws.{fills_same, fills_refused}
use Rattle.message.specs.declared.edition.Edition.TheVariants as E
use Rattle.edition.proofs.SentLaws.{sent, unsent, options_sent, others_sent, response_sent, response_others}
use Rattle.edition.proofs.TurnLaws.{sent_within, sent_header, downgraded_named, downgraded_same, downgrade_options, downgrade_refused}
use Rattle.xdr.proofs.Answered.{handed_on}
use Rattle.edition.proofs.turning.downgrade.Goals as goal

pub slice_bounds-whole-end : goal.slice_bounds-whole-end
slice_bounds-whole-end c =
    let x = response_sent E.New c.in-Some.ensures in
    omega (arith, sent_within x, length-take-le c.in-Some.end c.args.message.now (sent_within x))

pub returns-in-Some : goal.returns-in-Some
returns-in-Some c =
    let x = response_sent E.New c.in-Some.ensures in
    let both = others_sent E.New c.args.message.now refl (response_others E.New c.in-Some.ensures) x.value _ x.reads in
    fills_same c.args.out.now (downgraded_same (λ i. (c.type_inv.message i).fits) x both) c.whole.ensures

pub slice_bounds-without_repository-end : goal.slice_bounds-without_repository-end
slice_bounds-without_repository-end c =
    let x = sent E.New c.args.message.now c.read-m.ensures true c.in-Named.end c.extent_of.ensures (c.in_ok-end.was ∙ ap Ok c.in-Named.is) in
    omega (arith, sent_within x, length-take-le c.in-Named.end c.args.message.now (sent_within x))

pub without_repository-requires : goal.without_repository-requires
without_repository-requires c =
    let x = sent E.New c.args.message.now c.read-m.ensures true c.in-Named.end c.extent_of.ensures (c.in_ok-end.was ∙ ap Ok c.in-Named.is) in
    sent_header (λ i. (c.type_inv.message i).fits) x

pub slice_bounds-whole-end-in-Same : goal.slice_bounds-whole-end-in-Same
slice_bounds-whole-end-in-Same c =
    let x = sent E.New c.args.message.now c.read-m.ensures false c.in-Same.end c.extent_of.ensures (c.in_ok-end.was ∙ ap Ok c.in-Same.is) in
    omega (arith, sent_within x, length-take-le c.in-Same.end c.args.message.now (sent_within x))

pub returns-in-Named : goal.returns-in-Named
returns-in-Named c =
    let x = sent E.New c.args.message.now c.read-m.ensures true c.in-Named.end c.extent_of.ensures (c.in_ok-end.was ∙ ap Ok c.in-Named.is) in
    let both = others_sent E.New c.args.message.now c.read-m.ensures (sym c.is_options.ensures ∙ c.if-is_options.false) x.value _ x.reads in
    fills_same c.args.out.now (downgraded_named (λ i. (c.type_inv.message i).fits) x both) c.without_repository.ensures

pub returns-in-Same : goal.returns-in-Same
returns-in-Same c =
    let x = sent E.New c.args.message.now c.read-m.ensures false c.in-Same.end c.extent_of.ensures (c.in_ok-end.was ∙ ap Ok c.in-Same.is) in
    let both = others_sent E.New c.args.message.now c.read-m.ensures (sym c.is_options.ensures ∙ c.if-is_options.false) x.value _ x.reads in
    fills_same c.args.out.now (downgraded_same (λ i. (c.type_inv.message i).fits) x both) c.whole-in-Same.ensures

pub returns-in_err-end : goal.returns-in_err-end
returns-in_err-end c =
    rw (handed_on c.from_residual.result c.from_residual.ensures.1)
    (fills_refused c.args.out.now (downgrade_refused c.args.message.now (unsent E.New c.args.message.now c.read-m.ensures c.extent_of.ensures c.in_err-end.was)) refl)

pub returns-then-is_options : goal.returns-then-is_options
returns-then-is_options c =
    let o = options_sent E.New c.args.message.now c.read-m.ensures (sym c.is_options.ensures ∙ c.if-is_options.true) in
    fills_refused c.args.out.now (downgrade_options c.args.message.now o.2 o.3) c.refused.ensures
