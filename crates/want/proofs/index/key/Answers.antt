use Rattle.want.specs.Steps.Index.{key_of}
use Rattle.want.proofs.index.key.Goals as goal

pub returns : goal.returns
unfolding key_of
returns c = c.mixed.ensures
