-- What the check answers, then the room; and what is accepted is stored.
use mathlib.Core.Path.{sym, ◌∙◌}
use native.Mathlib.Omega.{arith}
use Rattle.std.specs.Option.{option_copied}
use Rattle.xdr.proofs.Answered.{handed_on}
use Rattle.xdr.proofs.FillingLaws.{fills_refused, fills_short, fills_given}
use Rattle.settings.specs.Saving.{fields_of}
use Rattle.settings.specs.Steps.{given}
use Rattle.settings.proofs.SavingLaws.{accepted, saving_refused, storable}
use Rattle.settings.proofs.saving.save_bytes.Goals as goal

pub returns-in_err-size : goal.returns-in_err-size
returns-in_err-size c =
    fills_refused c.args.out.now (saving_refused (fields_of (given c.args.own)) c.args.carried.now c.saved_end.ensures c.in_err-size.was) (handed_on c.from_residual.result c.from_residual.ensures.1)

pub returns-then-out-size : goal.returns-then-out-size
returns-then-out-size c =
    let t = accepted (fields_of (given c.args.own)) c.args.carried.now (sym c.saved_end.ensures ∙ c.in_ok-size.was) in
    fills_short c.args.out.now t.saves (omega (arith, t.size, c.if-out-size.true)) c.refused.ensures

pub store-requires : goal.store-requires
store-requires c =
    storable (option_copied c.args.own.window) (option_copied c.args.own.allowance) (option_copied c.args.own.repository) (option_copied c.args.own.note) c.args.carried.now
    (accepted (fields_of (given c.args.own)) c.args.carried.now (sym c.saved_end.ensures ∙ c.in_ok-size.was)) c.if-out-size.false

pub returns : goal.returns
returns c =
    let t = accepted (fields_of (given c.args.own)) c.args.carried.now (sym c.saved_end.ensures ∙ c.in_ok-size.was) in
    fills_given c.args.out.now t.saves (omega (arith, t.size, c.if-out-size.false)) t.size c.store.ensures
