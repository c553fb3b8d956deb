use Rattle.std.proofs.Common.{rules}
use Prim.Native.Nat.{◌≤◌, ◌<◌}
use borrow.Author.Tests.{le-leb, lt-leb}
use native.Mathlib.Omega.{arith}
use Rattle.feed.specs.Rest.{limit_of}
use Rattle.feed.specs.Steps.Next.{after_length}
use Rattle.feed.proofs.CodeLaws.{limit_most}
use Rattle.feed.proofs.steps.after_length.Goals as goal

pub pad_of-requires : goal.pad_of-requires
pad_of-requires c = omega (arith, c.if-n-limit_of.true, c.limit_of.ensures, limit_most c.args.string)

pub settled-requires : goal.settled-requires
settled-requires c = (search rules, omega (arith, c.if-n-limit_of.true, c.limit_of.ensures, limit_most c.args.string), omega (arith, c.pad_of.ensures, c.if-n-limit_of.true, c.limit_of.ensures, limit_most c.args.string))

pub returns-then-n-limit_of : goal.returns-then-n-limit_of
unfolding after_length
returns-then-n-limit_of c = let h : c.args.n ≤ limit_of c.args.string = omega (arith, c.if-n-limit_of.true, c.limit_of.ensures) in simp (c.settled.ensures, c.at_goal-start.ensures, c.pad_of.ensures, le-leb c.args.n (limit_of c.args.string) h)

pub returns-else-n-limit_of : goal.returns-else-n-limit_of
unfolding after_length
returns-else-n-limit_of c = let h : limit_of c.args.string < c.args.n = omega (arith, c.if-n-limit_of.false, c.limit_of.ensures) in simp (c.stopped.ensures, lt-leb c.args.n (limit_of c.args.string) h)
