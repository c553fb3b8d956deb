-- What decides before the bytes do decides, and else the bytes.
use Rattle.std.proofs.Common.{rules, ℕ, List, ◌∷◌, ◌≡◌, refl, ap, ◌∙◌, Bool, true, false, not}
use Rattle.std.specs.Ordering.{MatchOrdering, nat_cmp, bool_cmp, ordering_then}
use Rattle.std.specs.declared.cmp.Ordering.{Ordering}
use Rattle.std.specs.declared.cmp.Ordering.TheVariants.{Less, Equal, Greater}
use Rattle.record.specs.File.{is_deleted, is_invalid}
use Rattle.record.specs.Modified.{raised}
use Rattle.order.specs.Order.{or_else, compare_numbers, compare_lists, part}
use Rattle.order.proofs.OrderLaws.{as_cmp, heads}
use Rattle.table.specs.Newest.{bit, compare_at}
use Rattle.table.proofs.newest.compare_records.Goals as goal

bits : (a b : Bool) → bool_cmp a b ≡ compare_numbers (bit a) (bit b)
unfolding compare_numbers
bits true true = refl
bits true false = refl
bits false true = refl
bits false false = refl

grouped : (o p q : Ordering) → or_else (ordering_then o p) q ≡ or_else o (or_else p q)
grouped Less p q = refl
grouped Equal p q = refl
grouped Greater p q = refl

decided : (o r l : Ordering) {P : Type 0} → MatchOrdering o (r ≡ Less) P (r ≡ Greater) → (P → r ≡ l) → r ≡ or_else o l
decided Less r l h k = h
decided Equal r l h k = k h
decided Greater r l h k = h

by_keys : (m n v w : ℕ) (a b d e : Bool) (xs ys : List ℕ)
    → or_else (ordering_then (ordering_then (ordering_then (nat_cmp m n) (nat_cmp v w)) (bool_cmp a b)) (bool_cmp d e)) (compare_lists xs ys)
    ≡ compare_lists (m ∷ v ∷ bit a ∷ bit d ∷ xs) (n ∷ w ∷ bit b ∷ bit e ∷ ys)
by_keys m n v w a b d e xs ys =
    let p = compare_numbers m n in
    let q = compare_numbers v w in
    let r = compare_numbers (bit a) (bit b) in
    let t = compare_numbers (bit d) (bit e) in
    let l = compare_lists xs ys in
    simp (as_cmp m n (nat_cmp m n) refl, as_cmp v w (nat_cmp v w) refl, bits, heads)
    (grouped (ordering_then (ordering_then p q) r) t l ∙ grouped (ordering_then p q) r (or_else t l) ∙ grouped p q (or_else r (or_else t l)))

pub returns : goal.returns
unfolding compare_at
returns c =
    let f = c.args.f in
    let g = c.args.g in
    decided c.cmp.result c.then_with.result (compare_lists (part c.args.s.now f.rest f.past) (part c.args.t.now g.rest g.past)) c.then_with.ensures (λ p. search rules)
    ∙ ap (λ (o : Ordering). or_else o (compare_lists (part c.args.s.now f.rest f.past) (part c.args.t.now g.rest g.past))) (c.cmp.ensures ∙ rw (c.key.ensures, c.key-2.ensures) refl)
    ∙ by_keys (raised f.modified) (raised g.modified) f.version g.version (not (is_invalid f.flags)) (not (is_invalid g.flags)) (is_deleted f.flags) (is_deleted g.flags) _ _
