use mathlib.Core.Path.{◌∙◌}
use Rattle.serve.proofs.RulingLaws.{not_ours, ours_by}
use Rattle.serve.proofs.ruling.is_ours.Goals as goal

pub returns-else-is_eq : goal.returns-else-is_eq
returns-else-is_eq c = let s = c.args in c.if-is_eq.false ∙ not_ours s.table.now s.repository.now s.message.now s.x c.bytes_of.ensures c.compare_bytes.ensures c.is_eq.ensures c.if-is_eq.false

pub returns-then-is_eq : goal.returns-then-is_eq
returns-then-is_eq c = let s = c.args in ours_by s.table.now s.repository.now s.message.now s.x c.bytes_of.ensures c.compare_bytes.ensures c.is_eq.ensures c.if-is_eq.true c.bytes_of-then-is_eq.ensures c.bytes_of-then-is_eq-2.ensures c.lists.ensures
