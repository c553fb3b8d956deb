use Rattle.std.proofs.Common.{refl}
use Rattle.record.proofs.files.read_files.Goals as goal

pub returns : goal.returns
returns c = c.read_run.ensures.0 refl
