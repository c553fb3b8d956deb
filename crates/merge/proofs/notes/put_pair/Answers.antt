use Rattle.std.proofs.Common.{arith}
use Rattle.merge.proofs.NoteLaws.{pair_put}
use Rattle.merge.proofs.notes.put_pair.Goals as goal

pub returns : goal.returns
returns c = let s = c.args in pair_put s.notes.now s.at s.x s.y (omega arith)
