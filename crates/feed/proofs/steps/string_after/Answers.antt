use Rattle.std.proofs.Common.{rules}
use Prim.Native.Nat.{◌≤◌}
use borrow.Author.Tests.{lt-ltb, le-ltb}
use native.Mathlib.Omega.{arith}
use Rattle.feed.proofs.CodeLaws.{small_word}
use Rattle.feed.proofs.steps.string_after.Goals as goal

pub length_after-requires : goal.length_after-requires
length_after-requires c = let h : c.args.state.have ≤ 3 = omega (arith, c.if-state-lt4.true) in (search rules, small_word c.args.state.have c.args.state.value h (c.requires.1.0 h))

pub inside_after-requires : goal.inside_after-requires
inside_after-requires c = (search rules, c.requires.1.1 (omega (arith, c.if-state-lt4.false)))

pub returns-then-state-lt4 : goal.returns-then-state-lt4
returns-then-state-lt4 c = simp (c.length_after.ensures, lt-ltb c.args.state.have 4 c.if-state-lt4.true)

pub returns-else-state-lt4 : goal.returns-else-state-lt4
returns-else-state-lt4 c = let h : 3 ≤ c.args.state.have = omega (arith, c.if-state-lt4.false) in
    simp (c.inside_after.ensures, le-ltb c.args.state.have 4 c.if-state-lt4.false, le-ltb c.args.state.have 3 h)
