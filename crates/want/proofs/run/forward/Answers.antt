use Prim.Native.Nat.{ℕ}
use mathlib.Core.Path.{◌≡◌, subst}
use native.Mathlib.Omega.{arith}
use Rattle.want.specs.Steps.Runs.{mark_of, Marked}
use Rattle.want.proofs.RunLaws.{run_of, mark_there, marked_in, marked_out, marked_turn}
use Rattle.want.proofs.run.forward.Goals as goal

pub loop-j-init : goal.loop-j-init
loop-j-init c = marked_in c.requires

pub returns-then-offset-from : goal.returns-then-offset-from
returns-then-offset-from c = marked_out c.loop-j.invariant

pub place-requires : goal.place-requires
place-requires c = omega (arith, mark_there c.loop-j.invariant.within c.loop-j-test.true, c.well_formed)

pub size_at-requires : goal.size_at-requires
size_at-requires c = omega (arith, c.place.ensures, mark_there c.loop-j.invariant.within c.loop-j-test.true)

pub overflow_add-from : goal.overflow_add-from
overflow_add-from c = omega (arith, c.loop-j.invariant.within.small, c.loop-j.invariant.within.few, c.size_at.type_inv)

pub loop-j-preserved : goal.loop-j-preserved
loop-j-preserved c = marked_turn c.loop-j.invariant c.loop-j-test.true c.if-offset-from.false c.place.ensures c.size_at.ensures c.size_at.type_inv

pub returns : goal.returns
returns c = let e : c.loop-j.j ≡ c.args.run.count = omega (arith, c.loop-j.invariant.within.few, c.loop-j-test.false) in marked_out (subst (λ (n : ℕ). Marked c.args.s.now (run_of c.args.run.first c.args.run.count) (mark_of n c.loop-j.from) c.args.offset) e c.loop-j.invariant)
