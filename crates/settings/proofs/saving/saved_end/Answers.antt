-- The settings, and then the carried fields.
use mathlib.Core.Path.{sym, ◌∙◌}
use native.Mathlib.Omega.{arith}
use Rattle.std.specs.Option.{option_copied}
use Rattle.xdr.proofs.Answered.{handed_on}
use Rattle.settings.specs.Saving.{fields_of}
use Rattle.settings.specs.Steps.{given}
use Rattle.settings.proofs.SavingLaws.{own_refused, both_read, own_short}
use Rattle.settings.proofs.saving.saved_end.Goals as goal

pub returns-in_err-end : goal.returns-in_err-end
returns-in_err-end c =
    handed_on c.from_residual.result c.from_residual.ensures.1
    ∙ sym c.in_err-end.was
    ∙ own_refused (fields_of (given c.args.own)) c.args.carried.now c.settings_end.ensures c.in_err-end.was

pub carried_end-requires : goal.carried_end-requires
carried_end-requires c =
    omega (arith, own_short (option_copied c.args.own.window) (option_copied c.args.own.allowance) (option_copied c.args.own.repository) (option_copied c.args.own.note) c.settings_end.ensures c.in_ok-end.was)

pub returns : goal.returns
returns c = both_read (fields_of (given c.args.own)) c.args.carried.now c.settings_end.ensures c.in_ok-end.was c.carried_end.ensures
