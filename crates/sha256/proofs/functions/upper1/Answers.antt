-- Its rotations are those of the definition.
use Rattle.sha256.specs.Functions.{Σ₁}
use Rattle.sha256.proofs.functions.upper1.Goals as goal

pub returns : goal.returns
unfolding Σ₁
returns c = cc
