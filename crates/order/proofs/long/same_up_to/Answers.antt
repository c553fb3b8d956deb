-- Sixty-four more bytes are the same.
use Prim.Native.Nat.{ℕ, ◌+◌, ◌-◌, ◌%◌}
use mathlib.Core.List.{List}
use mathlib.Core.Path.{◌≡◌, sym, ap, ◌∙◌}
use mathlib.Core.Bool.{true}
use native.Mathlib.Omega.{arith}
use borrow.Author.Rules.{rules}
use lib.ListN.{take, drop}
use Rattle.order.specs.Order.{is_equal, compare_lists}
use Rattle.order.proofs.SameLaws.{is_same_lem, past_same}
use Rattle.order.proofs.long.same_up_to.Goals as goal

more : (a b : List ℕ) (i : ℕ) → compare_lists a b ≡ compare_lists (drop i a) (drop i b)
    → is_equal (compare_lists (take (i + 64 - i) (drop i a)) (take (i + 64 - i) (drop i b))) ≡ true
    → compare_lists a b ≡ compare_lists (drop (i + 64) a) (drop (i + 64) b)
more a b i w e =
    let long : i + 64 - i ≡ 64 = omega arith in
    let same : take 64 (drop i a) ≡ take 64 (drop i b) =
    ap (λ (n : ℕ). take n (drop i a)) (sym long) ∙ is_same_lem _ _ e ∙ ap (λ (n : ℕ). take n (drop i b)) long in
    w ∙ past_same a b i 64 same

pub loop-i-preserved : goal.loop-i-preserved
loop-i-preserved c =
    let s = more c.args.a.now c.args.b.now c.loop-i.i c.loop-i.invariant.2.2 (sym c.same_bytes.ensures ∙ c.if-not-same_bytes.false) in
    (search rules, search rules, (search rules, search rules, s))

pub returns-else-not-same_bytes : goal.returns-else-not-same_bytes
returns-else-not-same_bytes c =
    let s = more c.args.a.now c.args.b.now c.loop-i.i c.loop-i.invariant.2.2 (sym c.same_bytes.ensures ∙ c.if-not-same_bytes.false) in
    let e : c.loop-i.i + 64 ≡ c.min-n.result - c.min-n.result % 64 = omega (arith, c.loop-i.invariant.0, c.loop-i.invariant.1) in
    (search rules, search rules, s ∙ ap (λ (n : ℕ). compare_lists (drop n c.args.a.now) (drop n c.args.b.now)) e)
