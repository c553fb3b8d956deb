-- A mask of one bit tests it.
use Rattle.record.proofs.FlagBits.{masked_deleted}
use Rattle.record.proofs.file.is_deleted.Goals as goal

pub returns : goal.returns
returns c = masked_deleted c.args.flags
