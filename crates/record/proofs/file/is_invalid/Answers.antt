-- A mask of one bit tests it.
use Rattle.record.proofs.FlagBits.{masked_invalid}
use Rattle.record.proofs.file.is_invalid.Goals as goal

pub returns : goal.returns
returns c = masked_invalid c.args.flags
