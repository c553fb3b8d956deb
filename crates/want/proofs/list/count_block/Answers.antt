-- One where the local table does not hold it.
use mathlib.Core.Path.{refl, sym, ◌∙◌}
use Rattle.want.proofs.list.count_block.Goals as goal

pub returns-then-holds : goal.returns-then-holds
returns-then-holds c = rw (sym c.holds.ensures ∙ c.if-holds.true) refl

pub returns : goal.returns
returns c = rw (sym c.holds.ensures ∙ c.if-holds.false) refl
