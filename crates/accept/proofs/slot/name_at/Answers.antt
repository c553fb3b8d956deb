use native.Mathlib.Omega.{arith}
use Rattle.record.proofs.OutlineLaws.{word_there, word_missing}
use Rattle.accept.proofs.SlotLaws.{name_missing, name_there}
use Rattle.accept.proofs.slot.name_at.Goals as goal

pub returns-in_default : goal.returns-in_default
returns-in_default c = name_missing c.args.s.now c.args.at (word_missing c.read_word.ensures c.in_default.is).cut

pub overflow_add-name : goal.overflow_add-name
overflow_add-name c = omega (arith, (word_there c.read_word.ensures c.in-Ok.is).room)

pub returns : goal.returns
returns c = name_there c.args.s.now c.args.at (word_there c.read_word.ensures c.in-Ok.is) c.part.ensures
