-- Requests in order, gone through from the youngest to the oldest.
use Prim.Native.Nat.{ℕ, zero, suc, ◌+◌, ◌-◌, ◌<◌, ◌≤◌}
use native.Mathlib.Omega.{arith}
use mathlib.Core.Path.{◌≡◌, refl, sym, ap, subst, ◌∙◌}
use mathlib.Core.Bool.{Bool, true, false, ◌&&◌, and-false}
use mathlib.Core.List.{List, [], ◌∷◌}
use lib.ListN.{length, take, drop, get_or}
use lib.Seq.{slice, slice-cons}
use lib.Dec.{leb, eqb}
use borrow.Author.Tests.{leb-true}
use Rattle.link.specs.Requests.{blank, after, total, first_id, stands_before, is_consecutive}
use Rattle.link.specs.declared.request.Request.{Request}

pub both : (a b : Bool) → (a && b) ≡ true → (a ≡ true) × (b ≡ true)
both true b p = (refl, p)
both false b p = cc

-- a part that is not in order
pub is_consecutive_drop : (k : ℕ) (rs : List Request) (next : ℕ) → is_consecutive (drop k rs) next ≡ false → is_consecutive rs next ≡ false
is_consecutive_drop zero rs next p = p
is_consecutive_drop (suc k) [] next p = p
is_consecutive_drop (suc k) (r ∷ rs) next p = rw (is_consecutive_drop k rs next p) (and-false (stands_before r (first_id rs next)))

-- what is known of the requests passed
pub record Passed (rs : List Request) (next follower sum : ℕ) : Type 0 where
  pub ordered : is_consecutive rs next ≡ true
  pub first : follower ≡ first_id rs next
  pub summed : sum ≡ total rs

pub passed_none : (rs : List Request) (next : ℕ) → rs ≡ [] → Passed rs next next 0
passed_none rs next e = rw e (record { ordered = refl; first = refl; summed = refl })

passed_cons : (r : Request) (rs : List Request) (next follower sum : ℕ) → Passed rs next follower sum → stands_before r follower ≡ true
    → Passed (r ∷ rs) next r.id (sum + r.size)
passed_cons r rs next follower sum p e = record {
  ordered = rw (← p.first, e, p.ordered);
  first = refl;
  summed = rw p.summed (omega arith);
}

pub entry_length : (r : Request) (follower : ℕ) → stands_before r follower ≡ true → r.size ≤ 131072
entry_length r follower e =
    leb-true r.size 131072
    (both (leb 1 r.size) _ (both (eqb (after r.id) follower) _ (both (leb r.id 4095) _ e).1).1).1

module _ (es : List Request) (n i next follower sum : ℕ) (fits : n ≤ length es) (pos : 0 < i) (below : i ≤ n) where
  abbrev pub At : Request
  At = get_or es (i - 1) blank

  split : slice (i - 1) n es ≡ At ∷ slice i n es
  split =
      let e : suc (i - 1) ≡ i = omega arith in
      slice-cons (i - 1) n es blank (omega arith) fits ∙ ap (λ (k : ℕ). At ∷ slice k n es) e

  pub passed_more : Passed (slice i n es) next follower sum → stands_before At follower ≡ true
      → Passed (slice (i - 1) n es) next At.id (sum + At.size)
  passed_more p e =
      subst (λ (l : List Request). Passed l next At.id (sum + At.size)) (sym split)
      (passed_cons At (slice i n es) next follower sum p e)

  pub passed_not : Passed (slice i n es) next follower sum → stands_before At follower ≡ false → is_consecutive (take n es) next ≡ false
  passed_not p e =
      is_consecutive_drop (i - 1) (take n es) next
      (ap (λ (l : List Request). is_consecutive l next) split ∙ ap (λ (f : ℕ). stands_before At f && is_consecutive (slice i n es) next) (sym p.first) ∙ rw e)

-- the first of some entries, as many as there are of them
pub counted_first : (n : ℕ) (es : List Request) → take n es ≡ take (length (take n es)) es
counted_first zero es = refl
counted_first (suc n) [] = refl
counted_first (suc n) (e ∷ es) = ap (λ (l : List Request). e ∷ l) (counted_first n es)

pub counted_sixteen : (n : ℕ) (es : List Request) {k : ℕ} → k ≡ length (take n es) → length es ≡ 16 → k ≤ 16
counted_sixteen n es e l = subst (λ (m : ℕ). m ≤ 16) (sym e) (subst (λ (m : ℕ). length (take n es) ≤ m) l (most n es))
  where
    most : (n : ℕ) (es : List Request) → length (take n es) ≤ length es
    most zero es = omega arith
    most (suc n) [] = omega arith
    most (suc n) (x ∷ xs) = let h = most n xs in omega arith

-- one entry more in a sum
pub total_next : (es : List Request) (i : ℕ) → i < length es → total (take (i + 1) es) ≡ total (take i es) + (get_or es i blank).size
total_next [] i h = absurd (omega arith)
total_next (e ∷ es) zero h = omega arith
total_next (e ∷ es) (suc i) h =
    let next = total_next es i (omega arith) in
    let k : suc i + 1 ≡ suc (i + 1) = omega arith in
    ap (λ (k : ℕ). total (take k (e ∷ es))) k ∙ omega arith
