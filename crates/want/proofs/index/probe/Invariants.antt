use Prim.Native.Nat.{◌-◌, ◌<◌}
use mathlib.Core.Path.{◌≡◌}
use Rattle.want.specs.Steps.Blocks.{block_here}
use Rattle.want.specs.Steps.Index.{slot_from, slot_of}
use Rattle.want.proofs.index.probe.Given as goal

abbrev pub invariant-loop : goal.invariant-loop
invariant-loop l = (l.i < 8192) × (slot_of l.local l.index (block_here l.t l.p) ≡ slot_from l.local l.index l.i (64 - l.counter) (block_here l.t l.p))
