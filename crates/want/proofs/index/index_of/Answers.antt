use native.Mathlib.Omega.{arith}
use Rattle.want.proofs.index.index_of.Goals as goal

pub returns-then-build : goal.returns-then-build
returns-then-build c = λ _. c.build.ensures c.if-build.true

pub returns : goal.returns
returns c = λ z. absurd (omega (arith, z))
