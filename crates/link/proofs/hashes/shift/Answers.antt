-- The bytes from 32 on stand first, and the last 32 are blank.
use Rattle.link.proofs.HashLaws.{hashes_moved}
use Rattle.link.proofs.hashes.shift.Goals as goal

pub returns : goal.returns
returns c = hashes_moved c.args.hashes.now c.copy_within.new.self c.fill.new.self c.if-hashes-lt32.false c.copy_within.ensures.after (c.fill.ensures.after (λ y e. e))
