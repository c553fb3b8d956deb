-- Bit by bit.
use Rattle.std.proofs.Common.{arith}
use Rattle.sha256.specs.Functions.{Ch}
use Rattle.sha256.proofs.BitLaws.{choice_bits}
use Rattle.sha256.proofs.functions.choice.Goals as goal

pub returns : goal.returns
unfolding Ch
returns c = let a = c.args in choice_bits 32 a.x a.y a.z (omega arith) (omega arith) (omega arith)
