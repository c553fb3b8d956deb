-- Each pair of numbers decides, or what comes after it does.
use Prim.Native.Nat.{ℕ}
use mathlib.Core.List.{List}
use mathlib.Core.Path.{◌≡◌, sym, ap, ◌∙◌}
use native.Mathlib.Omega.{arith}
use lib.ListN.{drop}
use Rattle.xdr.specs.Reading.{taken}
use Rattle.xdr.specs.Fields.{hyper}
use Rattle.xdr.specs.Number.{IsBytes}
use Rattle.xdr.proofs.Answered.{word_taken}
use Rattle.xdr.proofs.Steps.{Reads, ends_word}
use Rattle.xdr.proofs.Parts.{number_value}
use Rattle.order.specs.Order.{compare_numbers, compare_lists}
use Rattle.order.proofs.WordLaws.{word_same, word_differs}
use Rattle.order.proofs.compare.compare_bytes.Goals as goal

-- the next eight bytes of each
module _ {a b : List ℕ} {i x y m n : ℕ} (p : IsBytes a) (q : IsBytes b) (r : Reads hyper a i (taken x m)) (t : Reads hyper b i (taken y n)) where
  decide : (x ≡ y → ⊥) → compare_lists (drop i a) (drop i b) ≡ compare_numbers x y
  decide d =
      let g = ends_word r in
      let h = ends_word t in
      word_differs 8 a b i p q (omega (arith, g.0, g.1)) (omega (arith, h.0, h.1)) (number_value r) (number_value t) d

  more : x ≡ y → compare_lists (drop i a) (drop i b) ≡ compare_lists (drop m a) (drop m b)
  more e =
      let g = ends_word r in
      let h = ends_word t in
      word_same 8 a b i p q (omega (arith, g.0, g.1)) (omega (arith, h.0, h.1)) (number_value r) (number_value t) e
      ∙ ap (λ (k : ℕ). compare_lists (drop k a) (drop k b)) (sym g.0)

pub returns-then-x-y : goal.returns-then-x-y
returns-then-x-y c =
    c.compare_numbers.ensures
    ∙ sym (c.loop-x.invariant.2 ∙ decide (λ i. (c.type_inv.a i).fits) (λ i. (c.type_inv.b i).fits) (word_taken c.read_hyper.ensures c.in-Ok-Ok.is-0) (word_taken c.read_hyper-in-loop-x.ensures c.in-Ok-Ok.is-1) c.if-x-y.true)

pub loop-x-smaller : goal.loop-x-smaller
loop-x-smaller c = let g = ends_word (word_taken c.read_hyper.ensures c.in-Ok-Ok.is-0) in omega (arith, g.0, g.1)

pub loop-x-preserved : goal.loop-x-preserved
loop-x-preserved c =
    let r = word_taken c.read_hyper.ensures c.in-Ok-Ok.is-0 in
    let t = word_taken c.read_hyper-in-loop-x.ensures c.in-Ok-Ok.is-1 in
    let g = ends_word r in
    let h = ends_word t in
    (g.1, omega (arith, g.0, h.0, h.1), c.loop-x.invariant.2 ∙ more (λ i. (c.type_inv.a i).fits) (λ i. (c.type_inv.b i).fits) r t c.if-x-y.false)
