use mathlib.Core.Path.{◌≡◌}
use lib.ListN.{length}
use Rattle.accept.specs.Steps.Slots.{slot_of}
use Rattle.accept.proofs.slot.slot_of.Given as goal

abbrev pub invariant-loop-j : goal.invariant-loop-j
invariant-loop-j l = slot_of l.s l.places (length l.places) l.name ≡ slot_of l.s l.places l.j l.name
