use mathlib.Core.Logic.{⊎_elim}
use mathlib.Core.Path.{sym, ap}
use Rattle.std.specs.declared.cmp.Ordering.TheVariants.{Equal}
use Rattle.want.specs.Steps.Head.{rank_in}
use Rattle.want.proofs.RankLaws.{rank_records}
use Rattle.want.proofs.head.by_records.Goals as goal

pub returns-then-is_same : goal.returns-then-is_same
returns-then-is_same c = sym (ap (rank_in Equal) (c.is_same.ensures c.if-is_same.true))

pub returns-in-Less : goal.returns-in-Less
returns-in-Less c = rank_records c.in-Less.is c.compare_records.ensures

pub returns-in-Equal : goal.returns-in-Equal
returns-in-Equal c = ⊎_elim (λ e. rank_records e c.compare_records.ensures) (λ e. rank_records e c.compare_records.ensures) c.in-Equal.is
