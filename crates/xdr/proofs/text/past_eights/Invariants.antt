-- Up to the place reached all bytes are sequences of their own.
use Prim.Native.Nat.{◌*◌}
use mathlib.Core.Path.{◌≡◌}
use Rattle.xdr.specs.Steps.{sound_after}
use Rattle.xdr.specs.Text.{sound_up_to}
use Rattle.xdr.proofs.text.past_eights.Given as goal

abbrev pub invariant-loop-i : goal.invariant-loop-i
invariant-loop-i l = sound_up_to l.s ≡ sound_after l.s (8 * l.i)
