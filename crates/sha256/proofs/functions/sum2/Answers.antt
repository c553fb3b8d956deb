-- The sum modulo 2 ^ 32 is the definition.
use Rattle.std.proofs.Common.{rules}
use Rattle.sha256.specs.Functions.{◌⊞◌}
use Rattle.sha256.proofs.functions.sum2.Goals as goal

pub returns : goal.returns
unfolding ◌⊞◌
returns c = search rules
