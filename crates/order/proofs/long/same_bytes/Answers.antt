-- A length tells them apart, and else the bytes do.
use mathlib.Core.Path.{ap}
use native.Mathlib.Omega.{arith}
use borrow.Author.Rules.{rules}
use lib.ListN.{length}
use Rattle.std.proofs.lemmas.Slice.Zip.{zip_end}
use Rattle.order.proofs.SameLaws.{differ, alike_ends}
use Rattle.order.proofs.long.same_bytes.Goals as goal

pub returns-then-a-b : goal.returns-then-a-b
returns-then-a-b c = differ _ _ (λ e. c.if-a-b.true (ap length e))

pub returns : goal.returns
returns c =
    let t = zip_end c.args.a.now c.args.b.now c.loop-x.yielded c.into_iter-x-iterator.result c.loop-x.x-iterator c.next.new.self c.next.result (search rules) (search rules) c.loop-x.yielded_by c.in-None.is c.next.ensures.steps in
    alike_ends c.loop-x.invariant (omega (arith, t, c.if-a-b.false)) c.if-a-b.false
