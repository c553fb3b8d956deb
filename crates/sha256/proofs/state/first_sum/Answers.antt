-- Its sums in turn.
use Rattle.sha256.proofs.state.first_sum.Goals as goal

pub returns : goal.returns
returns c = cc
