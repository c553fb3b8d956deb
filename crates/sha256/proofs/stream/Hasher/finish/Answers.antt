-- The bytes of the value.
use Rattle.std.proofs.Common.{ap, ◌∙◌}
use Rattle.sha256.specs.Hash.{state_bytes}
use Rattle.sha256.proofs.stream.Hasher.finish.Goals as goal

pub returns : goal.returns
returns c = c.state_bytes.ensures ∙ ap state_bytes c.value.ensures
