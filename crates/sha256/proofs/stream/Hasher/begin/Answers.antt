-- , field by field.
use Rattle.sha256.specs.Stream.{begun}
use Rattle.sha256.proofs.stream.Hasher.begin.Goals as goal

pub returns : goal.returns
unfolding begun
returns c = cc
