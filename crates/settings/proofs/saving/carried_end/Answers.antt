-- What is read from the start of the slice, that much further on.
use mathlib.Core.Path.{sym, ◌∙◌}
use native.Mathlib.Omega.{arith}
use Rattle.settings.specs.Reading.{none}
use Rattle.settings.proofs.CarriedLaws.{carried_taken, carried_refused}
use Rattle.settings.proofs.saving.carried_end.Goals as goal

pub overflow_add-result-in-Err : goal.overflow_add-result-in-Err
overflow_add-result-in-Err c = omega (arith, c.requires, (carried_refused c.args.carried.now 129 0 none (sym c.in-Err.is ∙ c.read_from.ensures)).0)

pub returns-in-Ok : goal.returns-in-Ok
returns-in-Ok c = λ so. carried_taken c.args.carried.now 129 c.args.at so (sym c.in-Ok.is ∙ c.read_from.ensures)

pub returns-in-Err : goal.returns-in-Err
returns-in-Err c = λ so. (carried_refused c.args.carried.now 129 c.args.at so (sym c.in-Err.is ∙ c.read_from.ensures)).1
