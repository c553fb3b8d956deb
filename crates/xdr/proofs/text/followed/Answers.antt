-- A follower at a time.
use Prim.Native.Nat.{ℕ, ◌+◌, ◌-◌, ◌≤◌}
use mathlib.Core.List.{List}
use mathlib.Core.Bool.{Bool, true, false}
use mathlib.Core.Path.{◌≡◌, refl, sym, ap, ◌∙◌}
use native.Mathlib.Omega.{arith}
use borrow.Author.Tests.{eq-eqb, le-leb}
use lib.ListN.{drop}
use Rattle.xdr.specs.Steps.{followed_by}
use Rattle.xdr.proofs.TextRule.{first_missing, first_there}
use Rattle.xdr.proofs.text.followed.Goals as goal
use Rattle.xdr.proofs.text.followed.Goals.{then-n-eq0, else-n-eq0, then-follows_at+then-n-le1, then-follows_at+else-n-le1, else-follows_at}

clash : {a b : Bool} → ◌≡◌ {A = Bool} false true → a ≡ b
clash e = cc

module _ (s : List ℕ) (at n low high : ℕ) where
  none : n ≡ 0 → followed_by n low high (drop at s) ≡ true
  none e = rw e refl

  module _ (first : followed_by 1 low high (drop at s) ≡ true) where
    one : n ≡ 1 → followed_by n low high (drop at s) ≡ true
    one e = rw e first

    -- after the first follower
    after : 1 ≤ n → followed_by n low high (drop at s) ≡ followed_by (n - 1) 128 191 (drop (at + 1) s)
    after h = first_there s at low high n (λ e. omega arith) first

    cut : 2 ≤ n → followed_by 1 128 191 (drop (at + 1) s) ≡ false → followed_by n low high (drop at s) ≡ false
    cut h e = after (omega arith) ∙ first_missing s (at + 1) 128 191 (n - 1) (λ z. omega arith) e

    module _ (second : followed_by 1 128 191 (drop (at + 1) s) ≡ true) where
      two : n ≡ 2 → followed_by n low high (drop at s) ≡ true
      two e =
          let left : n - 1 ≡ 1 = omega arith in
          after (omega arith) ∙ ap (λ (k : ℕ). followed_by k 128 191 (drop (at + 1) s)) left ∙ second

      three : n ≡ 3 → followed_by n low high (drop at s) ≡ followed_by 1 128 191 (drop (at + 2) s)
      three e =
          let left : n - 1 - 1 ≡ 1 = omega arith in
          let there : at + 1 + 1 ≡ at + 2 = omega arith in
          after (omega arith) ∙ first_there s (at + 1) 128 191 (n - 1) (λ z. omega arith) second
          ∙ ap (λ (k : ℕ). followed_by k 128 191 (drop (at + 1 + 1) s)) left
          ∙ ap (λ (p : ℕ). followed_by 1 128 191 (drop p s)) there

pub returns-then-n-le2 : goal.returns-then-n-le2
returns-then-n-le2 c =
    let a = c.args in
    elim c.if-follows_at.branch [
      | then-follows_at+then-n-le1 w ↦
          elim c.if-n-eq0.branch [
            | then-n-eq0 v ↦ le-leb a.n 2 c.if-n-le2.true ∙ sym (none a.s.now a.at a.n a.low a.high v.if-n-eq0.true)
            | else-n-eq0 v ↦ le-leb a.n 2 c.if-n-le2.true ∙ sym (one a.s.now a.at a.n a.low a.high (sym v.follows_at.ensures ∙ sym v.value-is ∙ w.if-follows_at.true) (omega (arith, v.if-n-eq0.false)))
          ]
      | then-follows_at+else-n-le1 w ↦
          elim c.if-n-eq0.branch [
            | then-n-eq0 v ↦ absurd (omega arith)
            | else-n-eq0 v ↦ le-leb a.n 2 c.if-n-le2.true ∙ sym (two a.s.now a.at a.n a.low a.high (sym v.follows_at.ensures ∙ sym v.value-is ∙ w.if-follows_at.true)
                (sym w.follows_at-else-n-le1.ensures ∙ sym w.value-is ∙ c.if-follows_at-2.true) (omega arith))
          ]
      | else-follows_at w ↦ clash (sym w.if-follows_at.false ∙ sym w.value-is ∙ c.if-follows_at-2.true)
    ]

pub returns-else-n-le2 : goal.returns-else-n-le2
returns-else-n-le2 c =
    let a = c.args in
    elim c.if-follows_at.branch [
      | then-follows_at+then-n-le1 w ↦ absurd (omega arith)
      | then-follows_at+else-n-le1 w ↦
          elim c.if-n-eq0.branch [
            | then-n-eq0 v ↦ absurd (omega arith)
            | else-n-eq0 v ↦ c.follows_at-else-n-le2.ensures ∙ sym (three a.s.now a.at a.n a.low a.high (sym v.follows_at.ensures ∙ sym v.value-is ∙ w.if-follows_at.true)
                (sym w.follows_at-else-n-le1.ensures ∙ sym w.value-is ∙ c.if-follows_at-2.true) (omega arith))
          ]
      | else-follows_at w ↦ clash (sym w.if-follows_at.false ∙ sym w.value-is ∙ c.if-follows_at-2.true)
    ]

pub returns-else-follows_at-2 : goal.returns-else-follows_at-2
returns-else-follows_at-2 c =
    let a = c.args in
    elim c.if-follows_at.branch [
      | then-follows_at+then-n-le1 w ↦ clash (sym c.if-follows_at-2.false ∙ w.value-is ∙ le-leb a.n 1 w.if-n-le1.true)
      | then-follows_at+else-n-le1 w ↦
          elim c.if-n-eq0.branch [
            | then-n-eq0 v ↦ absurd (omega arith)
            | else-n-eq0 v ↦ c.if-follows_at-2.false ∙ sym (cut a.s.now a.at a.n a.low a.high (sym v.follows_at.ensures ∙ sym v.value-is ∙ w.if-follows_at.true) (omega arith)
                (sym w.follows_at-else-n-le1.ensures ∙ sym w.value-is ∙ c.if-follows_at-2.false))
          ]
      | else-follows_at w ↦
          elim c.if-n-eq0.branch [
            | then-n-eq0 v ↦ clash (sym w.if-follows_at.false ∙ v.value-is ∙ eq-eqb a.n 0 v.if-n-eq0.true)
            | else-n-eq0 v ↦ c.if-follows_at-2.false ∙ sym (first_missing a.s.now a.at a.low a.high a.n v.if-n-eq0.false (sym v.follows_at.ensures ∙ sym v.value-is ∙ w.if-follows_at.false))
          ]
    ]
