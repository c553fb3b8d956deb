-- Sum by sum.
use Rattle.sha256.specs.Hash.{sum}
use Rattle.sha256.proofs.state.added.Goals as goal

pub returns : goal.returns
unfolding sum
returns c = cc
