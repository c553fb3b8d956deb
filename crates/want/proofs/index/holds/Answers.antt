-- By the index, where there is one, or else by the search.
use native.Mathlib.Omega.{arith}
use Rattle.table.specs.Table.{records}
use Rattle.want.proofs.BlockLaws.{held_here}
use Rattle.want.proofs.index.holds.Goals as goal

pub returns-then-index-eq0 : goal.returns-then-index-eq0
returns-then-index-eq0 c = let s = c.args in held_here s.t.now s.p c.size_at.ensures c.hash_at.ensures (records s.local.now) c.is_held.ensures

pub is_indexed-requires : goal.is_indexed-requires
is_indexed-requires c = record { indexed = c.requires.serves (omega (arith, c.if-index-eq0.false)); p_in_bounds = c.requires.p_in_bounds }
