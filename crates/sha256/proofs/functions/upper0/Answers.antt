-- Its rotations are those of the definition.
use Rattle.sha256.specs.Functions.{Σ₀}
use Rattle.sha256.proofs.functions.upper0.Goals as goal

pub returns : goal.returns
unfolding Σ₀
returns c = cc
