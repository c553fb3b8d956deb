-- The bytes at the place.
use Rattle.std.proofs.Common.{sym, ◌∙◌}
use Rattle.sha256.proofs.WordLaws.{word_here}
use Rattle.sha256.proofs.block.word_at.Goals as goal

pub returns : goal.returns
returns c = c.from_be_bytes.ensures ∙ sym (word_here c.args.s.now c.args.at)
