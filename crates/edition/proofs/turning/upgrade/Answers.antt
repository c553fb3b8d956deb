-- By the message that was read.
use lib.Seq.{length-take-le}
use Rattle.std.proofs.Common.{ap}
use Rattle.std.specs.Prelude.{Ok}
use Rattle.std.proofs.Common.{◌∙◌}
use mathlib.Core.Path.{refl}
use mathlib.Core.Bool.{true, false}
use native.Mathlib.Omega.{arith}
use Rattle.xdr.proofs.FillingLaws.{fills_same, fills_refused}
use Rattle.message.specs.declared.edition.Edition.TheVariants as E
use Rattle.edition.proofs.SentLaws.{sent, unsent, response_sent}
use Rattle.edition.proofs.TurnLaws.{sent_within, sent_header, upgraded_named, upgraded_same, upgrade_refused}
use Rattle.xdr.proofs.Answered.{handed_on}
use Rattle.edition.proofs.turning.upgrade.Goals as goal

pub slice_bounds-whole-end : goal.slice_bounds-whole-end
slice_bounds-whole-end c =
    let x = response_sent E.Old c.in-Some.ensures in
    omega (arith, sent_within x, length-take-le c.in-Some.end c.args.message.now (sent_within x))

pub returns-in-Some : goal.returns-in-Some
returns-in-Some c =
    let x = response_sent E.Old c.in-Some.ensures in
    fills_same c.args.out.now (upgraded_same c.args.repository.now (λ i. (c.type_inv.message i).fits) x) c.whole.ensures

pub slice_bounds-with_repository-end : goal.slice_bounds-with_repository-end
slice_bounds-with_repository-end c =
    let x = sent E.Old c.args.message.now c.read.ensures true c.in-Named.end c.extent_of.ensures (c.in_ok-end.was ∙ ap Ok c.in-Named.is) in
    omega (arith, sent_within x, length-take-le c.in-Named.end c.args.message.now (sent_within x))

pub with_repository-requires : goal.with_repository-requires
with_repository-requires c =
    let x = sent E.Old c.args.message.now c.read.ensures true c.in-Named.end c.extent_of.ensures (c.in_ok-end.was ∙ ap Ok c.in-Named.is) in
    sent_header (λ i. (c.type_inv.message i).fits) x

pub slice_bounds-whole-end-in-Same : goal.slice_bounds-whole-end-in-Same
slice_bounds-whole-end-in-Same c =
    let x = sent E.Old c.args.message.now c.read.ensures false c.in-Same.end c.extent_of.ensures (c.in_ok-end.was ∙ ap Ok c.in-Same.is) in
    omega (arith, sent_within x, length-take-le c.in-Same.end c.args.message.now (sent_within x))

pub returns-in-Named : goal.returns-in-Named
returns-in-Named c =
    let x = sent E.Old c.args.message.now c.read.ensures true c.in-Named.end c.extent_of.ensures (c.in_ok-end.was ∙ ap Ok c.in-Named.is) in
    fills_same c.args.out.now (upgraded_named c.args.repository.now (λ i. (c.type_inv.message i).fits) x) c.with_repository.ensures

pub returns-in-Same : goal.returns-in-Same
returns-in-Same c =
    let x = sent E.Old c.args.message.now c.read.ensures false c.in-Same.end c.extent_of.ensures (c.in_ok-end.was ∙ ap Ok c.in-Same.is) in
    fills_same c.args.out.now (upgraded_same c.args.repository.now (λ i. (c.type_inv.message i).fits) x) c.whole-in-Same.ensures

pub returns-in_err-end : goal.returns-in_err-end
returns-in_err-end c =
    rw (handed_on c.from_residual.result c.from_residual.ensures.1)
    (fills_refused c.args.out.now (upgrade_refused c.args.message.now c.args.repository.now (unsent E.Old c.args.message.now c.read.ensures c.extent_of.ensures c.in_err-end.was)) refl)
