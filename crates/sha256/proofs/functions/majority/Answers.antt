-- Bit by bit.
use Rattle.std.proofs.Common.{arith}
use Rattle.sha256.specs.Functions.{Maj}
use Rattle.sha256.proofs.BitLaws.{majority_bits}
use Rattle.sha256.proofs.functions.majority.Goals as goal

pub returns : goal.returns
unfolding Maj
returns c = let a = c.args in majority_bits 32 a.x a.y a.z (omega arith) (omega arith) (omega arith)
