-- Its terms and their sum.
use Rattle.sha256.proofs.state.second_sum.Goals as goal

pub returns : goal.returns
returns c = cc
