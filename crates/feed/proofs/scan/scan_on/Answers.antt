use Prim.Native.Nat.{◌+◌}
use native.Mathlib.Omega.{arith}
use borrow.Author.Tests.{le-leb, lt-leb}
use lib.ListN.{length}
use Rattle.feed.proofs.scan.scan_on.Goals as goal

pub returns-then-i-gt131072 : goal.returns-then-i-gt131072
returns-then-i-gt131072 c = simp (lt-leb (c.args.i + length c.args.part.now) 131072 (omega (arith, c.if-i-gt131072.true)))

pub returns-then-i-part : goal.returns-then-i-part
returns-then-i-part c = simp (lt-leb (c.args.i + length c.args.part.now) 131072 (omega (arith, c.if-i-part.true, c.if-i-gt131072.false)))

pub returns : goal.returns
returns c = simp (le-leb (c.args.i + length c.args.part.now) 131072 (omega (arith, c.if-i-part.false, c.if-i-gt131072.false)), c.scan_over.ensures)
