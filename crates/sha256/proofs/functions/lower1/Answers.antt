-- Its rotations are those of the definition.
use Rattle.sha256.specs.Functions.{σ₁}
use Rattle.sha256.proofs.functions.lower1.Goals as goal

pub returns : goal.returns
unfolding σ₁
returns c = cc
