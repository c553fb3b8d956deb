-- Each pair of bytes decides, or what comes after it does.
use Prim.Native.Nat.{ℕ, ◌+◌, ◌<◌}
use mathlib.Core.List.{List}
use mathlib.Core.Path.{◌≡◌, sym, ap, ◌∙◌}
use borrow.Author.Rules.{rules}
use lib.ListN.{length, drop, get_or, length-append}
use Rattle.std.specs.Ordering.{nat_cmp}
use Rattle.std.specs.declared.cmp.Ordering.{Ordering}
use Rattle.std.proofs.lemmas.Slice.Zip.{zip_turn, zip_end}
use Rattle.order.specs.Order.{or_else, compare_numbers, compare_lists}
use Rattle.order.proofs.OrderLaws.{as_cmp, number_same, number_decides, both_there, one_ended}
use Rattle.order.proofs.compare.compare_rest.Goals as goal

module _ (a b : List ℕ) (i : ℕ) {x y : ℕ} (same : compare_lists a b ≡ compare_lists (drop i a) (drop i b)) (h : i < length a) (g : i < length b) (e : x ≡ get_or a i 0) (f : y ≡ get_or b i 0) where
  turn : compare_lists a b ≡ or_else (compare_numbers x y) (compare_lists (drop (i + 1) a) (drop (i + 1) b))
  turn = same ∙ both_there a b i h g ∙ ap (λ (n : ℕ). or_else (compare_numbers n (get_or b i 0)) (compare_lists (drop (i + 1) a) (drop (i + 1) b))) (sym e)
      ∙ ap (λ (n : ℕ). or_else (compare_numbers x n) (compare_lists (drop (i + 1) a) (drop (i + 1) b))) (sym f)

  decide : {o : Ordering} → o ≡ nat_cmp x y → (x ≡ y → ⊥) → o ≡ compare_lists a b
  decide {o} c d = as_cmp x y o c ∙ sym (turn ∙ number_decides x y (compare_lists (drop (i + 1) a) (drop (i + 1) b)) d)

  more : x ≡ y → compare_lists a b ≡ compare_lists (drop (i + 1) a) (drop (i + 1) b)
  more s = turn ∙ ap (λ (o : Ordering). or_else o (compare_lists (drop (i + 1) a) (drop (i + 1) b))) (number_same x y s)

pub returns-then-x-y : goal.returns-then-x-y
returns-then-x-y c =
    let t =
    zip_turn c.args.a.now c.args.b.now c.loop-x.yielded c.into_iter-x-iterator.result c.loop-x.x-iterator c.next.new.self c.next.result (search rules) (search rules)
    c.loop-x.yielded_by _ c.in-Some.is c.next.ensures.steps in
    decide c.args.a.now c.args.b.now (length c.loop-x.yielded) c.loop-x.invariant t.0 t.1 (t.2 0) (t.3 0) c.cmp.ensures c.if-x-y.true

pub loop-x-preserved : goal.loop-x-preserved
loop-x-preserved c =
    let t =
    zip_turn c.args.a.now c.args.b.now c.loop-x.yielded c.into_iter-x-iterator.result c.loop-x.x-iterator c.next.new.self c.next.result (search rules) (search rules)
    c.loop-x.yielded_by _ c.in-Some.is c.next.ensures.steps in
    simp length-append (more c.args.a.now c.args.b.now (length c.loop-x.yielded) c.loop-x.invariant t.0 t.1 (t.2 0) (t.3 0) c.if-x-y.false)

pub returns : goal.returns
returns c =
    let t =
    zip_end c.args.a.now c.args.b.now c.loop-x.yielded c.into_iter-x-iterator.result c.loop-x.x-iterator c.next.new.self c.next.result (search rules) (search rules)
    c.loop-x.yielded_by c.in-None.is c.next.ensures.steps in
    as_cmp _ _ _ c.cmp-2.ensures ∙ sym (c.loop-x.invariant ∙ one_ended c.args.a.now c.args.b.now (length c.loop-x.yielded) t)
