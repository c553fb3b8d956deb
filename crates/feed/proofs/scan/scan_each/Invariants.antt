use Prim.Native.Nat.{◌+◌}
use mathlib.Core.Path.{◌≡◌}
use Rattle.feed.proofs.TextLaws.{Scanning}
use Rattle.feed.proofs.scan.scan_each.Given as goal

abbrev pub invariant-loop-b : goal.invariant-loop-b
invariant-loop-b l = Scanning l.rule l.initial.q l.i l.part l.q l.b-index × (l.at ≡ l.i + l.b-index)
