-- The loops over the five tables: which has the next record, and which is the first of the peers.
use Prim.Native.Nat.{ℕ, suc, ◌+◌, ◌-◌, ◌≤◌, ◌<◌}
use mathlib.Core.List.{List, [], ◌∷◌, map}
use mathlib.Core.Path.{◌≡◌, refl, sym, ap, ◌∙◌}
use mathlib.Core.Bool.{Bool, true, false, cond}
use native.Mathlib.Omega.{arith}
use lib.ListN.{length, get_or, get_or-map}
use Rattle.merge.specs.Steps.Next.{next_of}
use Rattle.want.specs.Steps.Places.{is_first, table_at, place_at, lower_of, lowest_from, first_of}

-- an element of the lent tables
pub element : {A : Type 0} (f : A → List ℕ) (l : List A) (k : ℕ) (d : A) → f d ≡ [] → f (get_or l k d) ≡ table_at (map f l) k
element f l k d e = sym (get_or-map f l k d) ∙ ap (get_or (map f l) k) e

-- what is within the table is within the bytes that are lent for it
pub within_lent : {A : Type 0} (f : A → List ℕ) (l : List A) (k : ℕ) (d : A) → f d ≡ [] → {n : ℕ} → n ≤ length (table_at (map f l) k) → n ≤ length (f (get_or l k d))
within_lent f l k d e h = omega (arith, h, ap length (element f l k d e))

pub five : {a b c d e v w x y z : ℕ} → a ≡ v → b ≡ w → c ≡ x → d ≡ y → e ≡ z → (a ∷ b ∷ c ∷ d ∷ e ∷ []) ≡ (v ∷ w ∷ x ∷ y ∷ z ∷ [])
five {a} {b} {c} {d} {e} {v} {w} {x} {y} {z} p q r s t = cc

module _ (ts : List (List ℕ)) (ps : List ℕ) where
  pub lower_small : (best k : ℕ) → best < 5 → k < 5 → lower_of ts ps best k < 5
  lower_small best k p q = go (is_first (next_of (table_at ts best) (place_at ps best) (table_at ts k) (place_at ps k)))
    where
      go : (b : Bool) → cond b best k < 5
      go true = p
      go false = q

  -- of the tables before k, `best` has the next record
  pub record Lowest (best k : ℕ) : Type 0 where
    pub same : lowest_from ts ps 0 1 4 ≡ lowest_from ts ps best k (5 - k)
    pub small : best < 5
    pub few : k ≤ 5

  pub lowest_starts : Lowest 0 1
  lowest_starts = record { same = refl; small = omega arith; few = omega arith }

  lowest_next : (best k left : ℕ) → lowest_from ts ps best k (suc left) ≡ lowest_from ts ps (lower_of ts ps best k) (k + 1) left
  unfolding lowest_from
  lowest_next best k left = refl

  lowest_none : (best k : ℕ) → lowest_from ts ps best k 0 ≡ best
  unfolding lowest_from
  lowest_none best k = refl

  pub lowest_turn : {best k r : ℕ} → Lowest best k → k < 5 → r ≡ lower_of ts ps best k → Lowest r (k + 1)
  lowest_turn {best} {k} {r} w h e =
      let left : 5 - k ≡ suc (5 - (k + 1)) = omega arith in
      record {
        same = w.same ∙ ap (lowest_from ts ps best k) left ∙ lowest_next best k (5 - (k + 1)) ∙ ap (λ (x : ℕ). lowest_from ts ps x (k + 1) (5 - (k + 1))) (sym e);
        small = rw e (lower_small best k w.small h);
        few = omega arith;
      }

  pub lowest_ends : {best k : ℕ} → Lowest best k → 5 ≤ k → best ≡ lowest_from ts ps 0 1 4
  lowest_ends {best} {k} w h =
      let none : 5 - k ≡ 0 = omega arith in
      sym (w.same ∙ ap (lowest_from ts ps best k) none ∙ lowest_none best k)

-- the lowest of the numbers from 1 to 4

pub first_next : (is : ℕ → Bool) (k left : ℕ) → first_of is k (suc left) ≡ cond (is k) k (first_of is (k + 1) left)
unfolding first_of
first_next is k left = refl

pub first_none : (is : ℕ → Bool) (k : ℕ) → first_of is k 0 ≡ 0
unfolding first_of
first_none is k = refl

-- none of those before k is one
pub record Asking (is : ℕ → Bool) (k : ℕ) : Type 0 where
  pub same : first_of is 1 4 ≡ first_of is k (5 - k)
  pub few : k ≤ 5

pub asking_starts : (is : ℕ → Bool) → Asking is 1
asking_starts is = record { same = refl; few = omega arith }

module _ {is : ℕ → Bool} {k : ℕ} (w : Asking is k) where
  pub asking_ends : 5 ≤ k → 0 ≡ first_of is 1 4
  asking_ends h = let none : 5 - k ≡ 0 = omega arith in sym (w.same ∙ ap (first_of is k) none ∙ first_none is k)

  by_next : k < 5 → {v : Bool} → is k ≡ v → first_of is 1 4 ≡ cond v k (first_of is (k + 1) (5 - (k + 1)))
  by_next h e =
      let left : 5 - k ≡ suc (5 - (k + 1)) = omega arith in
      w.same ∙ ap (first_of is k) left ∙ first_next is k (5 - (k + 1)) ∙ ap (λ (t : Bool). cond t k (first_of is (k + 1) (5 - (k + 1)))) e

  pub asking_found : k < 5 → is k ≡ true → k ≡ first_of is 1 4
  asking_found h e = sym (by_next h e)

  pub asking_goes_on : k < 5 → is k ≡ false → Asking is (k + 1)
  asking_goes_on h e = record { same = by_next h e; few = omega arith }
