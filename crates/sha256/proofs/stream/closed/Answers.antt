-- The length goes into the block of the 1 bit, or into one of its own.
use Rattle.std.proofs.Common.{refl, ◌∙◌, arith}
use Rattle.sha256.proofs.ByteLaws.{eight_bytes}
use Rattle.sha256.proofs.FinishLaws.{closed_short, closed_long}
use Rattle.sha256.proofs.stream.closed.Goals as goal

pub returns-then-held-lt56 : goal.returns-then-held-lt56
returns-then-held-lt56 c =
    closed_short c.args.rest.now c.args.state c.args.size _ refl c.requires (omega arith) c.laid-block.result c.to_be_bytes-bits.result c.laid-full.result c.hashed.result
    c.laid-block.ensures (c.to_be_bytes-bits.ensures ∙ eight_bytes _) c.laid-full.ensures c.hashed.ensures

pub returns : goal.returns
returns c =
    closed_long c.args.rest.now c.args.state c.args.size _ refl c.requires (omega arith) c.laid-block.result c.to_be_bytes-bits.result c.laid-last.result c.hashed-first.result c.hashed-2.result
    c.laid-block.ensures (c.to_be_bytes-bits.ensures ∙ eight_bytes _) c.hashed-first.ensures c.laid-last.ensures c.hashed-2.ensures
