-- The loop keeps the sum of the Lengths so far, and that it cannot have grown too large.
use Rattle.std.proofs.Common.{◌≡◌, ◌*◌, ◌≤◌}
use Rattle.record.specs.Outline.{offset_of}
use Rattle.record.proofs.outline.offset_of.Given as goal

abbrev pub invariant-loop-j : goal.invariant-loop-j
invariant-loop-j l = (l.sum ≡ offset_of l.s l.first l.j) × (l.sum ≤ l.j * 4294967295)
