-- Its rotations are those of the definition.
use Rattle.sha256.specs.Functions.{σ₀}
use Rattle.sha256.proofs.functions.lower0.Goals as goal

pub returns : goal.returns
unfolding σ₀
returns c = cc
