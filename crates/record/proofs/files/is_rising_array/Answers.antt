-- Whether the array ends with the bytes, by what was read.
use Rattle.std.proofs.Common.{length, sym, refl, ap, ◌∙◌}
use Rattle.record.specs.Steps.{ends_at}
use Rattle.record.proofs.files.is_rising_array.Goals as goal

pub returns-in-Ok : goal.returns-in-Ok
returns-in-Ok c = sym (ap (ends_at (length c.args.s.now)) c.in-Ok.is) ∙ c.read_run.ensures.1 refl

pub returns-in-Err : goal.returns-in-Err
returns-in-Err c = sym (ap (ends_at (length c.args.s.now)) c.in-Err.is) ∙ c.read_run.ensures.1 refl
