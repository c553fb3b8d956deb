-- What an accepted call does to the outstanding requests, and that it leaves a link in order.
use Prim.Native.Nat.{ℕ, zero, suc, ◌+◌, ◌-◌, ◌*◌, ◌<◌, ◌≤◌}
use native.Mathlib.Numerals.{add-one}
use native.Mathlib.Omega.{arith}
use mathlib.Core.Path.{◌≡◌, refl, sym, ap, ◌∙◌}
use mathlib.Core.Bool.{Bool, true, false, cond, ◌&&◌}
use mathlib.Core.List.{List, [], ◌∷◌, ◌++◌}
use lib.ListN.{length, take, drop, set, length-set, length-append, length-drop}
use lib.Seq.{take-suc-set, take-append-le}
use lib.Dec.{leb, ltb, eqb}
use borrow.Author.Tests.{leb-true, le-leb, eqb-true, eq-eqb, ltb-true, ltb-false}
use Rattle.record.specs.Block.{is_size}
use Rattle.link.specs.Requests.{blank, after, total, first_id, stands_before, is_consecutive}
use Rattle.link.specs.OneLink.{outstanding, is_orderly, appended, without_oldest, emptied}
use Rattle.link.specs.declared.request.Request.{Request}
use Rattle.link.specs.declared.list.Link.{Link}
use Rattle.link.proofs.RequestLaws.{both}
use Rattle.link.proofs.LinkLaws.{Orderly, orderly_facts, orderly_made}

-- a link as the code can hold one, in order
pub record Good (q : Link) : Type 0 where
  pub orderly : is_orderly q ≡ true
  pub long : length q.entries ≡ 16

abbrev pub next_request : Link → ℕ → Request
next_request q n = record { id = q.next; size = n }

-- one more
pub outstanding_appended : (q : Link) (n : ℕ) → q.count < length q.entries
    → outstanding (appended q n) ≡ outstanding q ++ (next_request q n ∷ [])
outstanding_appended q n h =
    ap (λ (k : ℕ). take k (set q.entries q.count (next_request q n))) (add-one q.count) ∙ take-suc-set q.entries q.count (next_request q n) h

pub total_append : (rs : List Request) (r : Request) → total (rs ++ (r ∷ [])) ≡ total rs + r.size
total_append [] r = omega arith
total_append (x ∷ rs) r = rw (total_append rs r) (omega arith)

first_id_append : (rs : List Request) (r : Request) (next : ℕ) → first_id (rs ++ (r ∷ [])) next ≡ first_id rs r.id
first_id_append [] r next = refl
first_id_append (x ∷ rs) r next = refl

is_consecutive_append : (rs : List Request) (r : Request) → is_consecutive rs r.id ≡ true → r.id ≤ 4095 → is_size r.size ≡ true
    → is_consecutive (rs ++ (r ∷ [])) (after r.id) ≡ true
is_consecutive_append [] r o i l = rw (le-leb _ _ i, eq-eqb (after r.id) (after r.id) refl, l)
is_consecutive_append (x ∷ rs) r o i l =
    let h = both (stands_before x (first_id rs r.id)) (is_consecutive rs r.id) o in
    rw (first_id_append rs r (after r.id), h.0, is_consecutive_append rs r h.1 i l)

after_below : (a : ℕ) (b : Bool) → ltb a 4095 ≡ b → cond b (a + 1) 0 ≤ 4095
after_below a true e = let h : a < 4095 = ltb-true a 4095 e in omega arith
after_below a false e = omega arith

pub good_appended : (q : Link) (n : ℕ) → Good q → q.count < q.window → is_size n ≡ true → Good (appended q n)
good_appended q n g below fits =
    let s : Orderly q = orderly_facts q g.orderly in
    let out : outstanding (appended q n) ≡ outstanding q ++ (next_request q n ∷ []) = outstanding_appended q n (omega (arith, g.long)) in
    record {
      orderly = orderly_made (appended q n) (record {
        low = s.low;
        high = s.high;
        held = omega arith;
        next_id = after_below q.next (ltb q.next 4095) refl;
        ordered = rw out (is_consecutive_append (outstanding q) (next_request q n) s.ordered s.next_id fits);
      });
      long = length-set q.entries q.count (next_request q n) ∙ g.long;
    }

-- one fewer
front : (n : ℕ) (es : List Request) (b r : Request) (rs : List Request) → take n es ≡ r ∷ rs → n ≤ length es
    → take (n - 1) (drop 1 es ++ (b ∷ [])) ≡ rs
front zero es b r rs e h = cc
front (suc k) [] b r rs e h = absurd (omega arith)
front (suc k) (x ∷ xs) b r rs e h =
    let p : suc k - 1 ≡ k = omega arith in
    let t : take k xs ≡ rs = cc in
    ap (λ (n : ℕ). take n (xs ++ (b ∷ []))) p ∙ take-append-le k xs (b ∷ []) (omega arith) ∙ t

pub outstanding_without : (q : Link) (r : Request) (rs : List Request) → Good q → outstanding q ≡ r ∷ rs → outstanding (without_oldest q) ≡ rs
outstanding_without q r rs g e =
    let s : Orderly q = orderly_facts q g.orderly in
    front q.count q.entries blank r rs e (omega (arith, g.long))

shifted_long : (es : List Request) (b : Request) → length es ≡ 16 → length (drop 1 es ++ (b ∷ [])) ≡ 16
shifted_long es b l = simp (length-append, length-drop, l)

pub good_without : (q : Link) (r : Request) (rs : List Request) → Good q → outstanding q ≡ r ∷ rs → Good (without_oldest q)
good_without q r rs g e =
    let s : Orderly q = orderly_facts q g.orderly in
    let out : outstanding (without_oldest q) ≡ rs = outstanding_without q r rs g e in
    let o : is_consecutive (r ∷ rs) q.next ≡ true = ap (λ (l : List Request). is_consecutive l q.next) (sym e) ∙ s.ordered in
    record {
      orderly = orderly_made (without_oldest q) (record {
        low = s.low;
        high = s.high;
        held = omega arith;
        next_id = s.next_id;
        ordered = rw out (both (stands_before r (first_id rs q.next)) (is_consecutive rs q.next) o).1;
      });
      long = shifted_long q.entries blank g.long;
    }

pub good_emptied : (q : Link) → Good q → Good (emptied q)
good_emptied q g =
    let s : Orderly q = orderly_facts q g.orderly in
    record {
      orderly = orderly_made (emptied q) (record { low = s.low; high = s.high; held = omega arith; next_id = s.next_id; ordered = refl });
      long = refl;
    }

-- IDs do not come again within 4096
unfoldable pub Apart : ℕ → List Request → Type 0
Apart a [] = Unit {0}
Apart a (r ∷ rs) = (a ≡ r.id → ⊥) × Apart a rs

after_is : (a b : ℕ) (t : Bool) → ltb a 4095 ≡ t → cond t (a + 1) 0 ≡ b → a ≤ 4095 → (p k c : ℕ) → p ≤ 1 → c ≤ 4095 → k ≤ 4095 → a + 4096 * p ≡ c + k
    → (X : Type 0) → ((p' : ℕ) → p' ≤ 1 → b + 4096 * p' ≡ c + (k + 1) → X) → X
after_is a b true e f i p k c pb cb kb h X go = let l : a < 4095 = ltb-true a 4095 e in go p pb (omega arith)
after_is a b false e f i p k c pb cb kb h X go = let l : 4095 ≤ a = ltb-false a 4095 e in go (p + 1) (omega arith) (omega arith)

pub apart : (a k p next : ℕ) (rs : List Request) → a ≤ 4095 → 1 ≤ k → k + length rs ≤ 4096 → is_consecutive rs next ≡ true → p ≤ 1
    → first_id rs next + 4096 * p ≡ a + k → Apart a rs
unfolding Apart
apart a k p next [] ab kb lb o pb f = tt
apart a k p next (r ∷ rs) ab kb lb o pb f =
    let h = both (stands_before r (first_id rs next)) (is_consecutive rs next) o in
    let i = both (leb r.id 4095) (eqb (after r.id) (first_id rs next) && is_size r.size) h.0 in
    let j = both (eqb (after r.id) (first_id rs next)) (is_size r.size) i.1 in
    let ib : r.id ≤ 4095 = leb-true _ _ i.0 in
    let n : after r.id ≡ first_id rs next = eqb-true _ _ j.0 in (
      (λ e. omega arith),
      after_is r.id (first_id rs next) (ltb r.id 4095) refl n ib p k a pb ab (omega arith) f (Apart a rs)
          (λ p' pb' f'. apart a (k + 1) p' next rs ab (omega arith) (omega arith) h.1 pb' f'),
    )

pub first_apart : (r : Request) (rs : List Request) (next : ℕ) → is_consecutive (r ∷ rs) next ≡ true → length rs ≤ 15 → Apart r.id rs
first_apart r rs next o l =
    let h = both (stands_before r (first_id rs next)) (is_consecutive rs next) o in
    let i = both (leb r.id 4095) (eqb (after r.id) (first_id rs next) && is_size r.size) h.0 in
    let j = both (eqb (after r.id) (first_id rs next)) (is_size r.size) i.1 in
    let ib : r.id ≤ 4095 = leb-true _ _ i.0 in
    let n : after r.id ≡ first_id rs next = eqb-true _ _ j.0 in
    after_is r.id (first_id rs next) (ltb r.id 4095) refl n ib 0 0 r.id (omega arith) ib (omega arith) (omega arith) (Apart r.id rs)
    (λ p' pb' f'. apart r.id 1 p' next rs ib (omega arith) (omega arith) h.1 pb' (omega arith))
