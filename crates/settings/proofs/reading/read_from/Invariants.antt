-- Reading all of it is reading on from here.
use Prim.Native.Nat.{◌-◌, ◌≤◌}
use mathlib.Core.Path.{◌≡◌}
use lib.ListN.{length, drop}
use Rattle.settings.specs.Reading.{none, read_from}
use Rattle.settings.proofs.reading.read_from.Given as goal

abbrev pub invariant-loop-at : goal.invariant-loop-at
invariant-loop-at l = (l.at ≤ length l.s) × (read_from l.s 0 l.fn.first 0 none ≡ read_from (drop l.at l.s) 0 l.least l.at l.settings)

abbrev pub decreases-loop-at : goal.decreases-loop-at
decreases-loop-at l = length l.s - l.at
