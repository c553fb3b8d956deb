use Rattle.std.proofs.Common.{ℕ, ◌-◌, ◌+◌, ◌≡◌, get_or, subst, arith}
use Rattle.std.proofs.Math.ListN.{set}
use Rattle.accept.proofs.ShiftLaws.{Shifted, shifted_more, shifted_put}
use Rattle.accept.proofs.accepting.insert_at.Goals as goal

pub loop-k-preserved : goal.loop-k-preserved
loop-k-preserved c =
    let k = c.loop-k.k in
    let same : k ≡ k - 1 + 1 = omega (arith, c.loop-k-test.true) in
    (subst (λ (i : ℕ). Shifted c.args.places.now (set c.loop-k.places i (get_or c.loop-k.places (k - 1) 0)) (k - 1)) same (shifted_more c.loop-k.invariant.0 (omega (arith, c.loop-k-test.true))), omega (arith, c.loop-k-test.true))

pub returns : goal.returns
returns c = shifted_put c.loop-k.invariant.0 _ (omega (arith, c.loop-k.invariant.1, c.loop-k-test.false))
