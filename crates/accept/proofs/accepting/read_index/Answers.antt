use mathlib.Core.Path.{ap, ◌∙◌}
use Rattle.message.specs.Kinds.{index_in}
use Rattle.accept.proofs.accepting.read_index.Goals as goal

pub returns : goal.returns
returns c = c.index_in.ensures ∙ ap index_in c.read.ensures
