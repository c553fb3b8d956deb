-- How a composed reader goes on from what an inner one read: one step for each way that a format is read.
use Prim.Native.Nat.{ℕ, suc, ◌+◌, ◌-◌, ◌≤◌, ◌<◌, min}
use mathlib.Core.List.{List}
use mathlib.Core.Path.{◌≡◌, refl, sym, ap, ◌∙◌}
use mathlib.Core.Bool.{Bool, true, false, cond}
use native.Mathlib.Omega.{arith}
use native.Mathlib.Nat.{add-zero, zero-add, add_assoc, zero-min}
use native.Mathlib.Decide.{dec_le}
use borrow.Author.Tests.{le-leb, lt-leb, leb-true}
use lib.ListN.{length, take, drop, length-drop}
use lib.Seq.{drop-drop, length-take-le}
use lib.Dec.{leb}
use Rattle.xdr.specs.Reading.{Reading, taken, refused, shifted, mapped, relocated, tested, and_then}
use Rattle.xdr.specs.Number.{big_endian}
use Rattle.xdr.specs.Format.{Format, number, bytes, pair, checked_at, checked, via, contents, bytes_place, read, read_at}
use Rattle.xdr.specs.Pad.{padded, zeros_up_to, all_zero}
use Rattle.xdr.proofs.Within.{within, place_start}

-- reading s at a place by a format gives r
pub record Reads {A : Type 0} (F : Format A) (s : List ℕ) (at : ℕ) (r : Reading A) : Type 0 where
  pub is : read_at F s at ≡ r

-- an answer is that of the reading
pub answered : {A B : Type 0} (answer : Reading A → B) {F : Format A} {s : List ℕ} {at : ℕ} {r : Reading A} → Reads F s at r → answer r ≡ answer (read_at F s at)
answered answer h = ap answer (sym h.is)

unshifted : {A : Type 0} (k : ℕ) (r : Reading A) (a : A) (m : ℕ) → shifted k r ≡ taken a m → (u : ℕ) × (r ≡ taken a u) × (m ≡ k + u)
unshifted k (taken b u) a m e = (u, cc, cc)
unshifted k (refused n p) a m e = let z : ◌≡◌ {A = ℕ} 0 1 = cc in absurd (omega arith)

unshifted_refused : {A : Type 0} (k : ℕ) (r : Reading A) (n q : ℕ) → shifted k r ≡ refused n q → (p : ℕ) × (r ≡ refused n p) × (q ≡ k + p)
unshifted_refused k (taken b u) n q e = let z : ◌≡◌ {A = ℕ} 0 1 = cc in absurd (omega arith)
unshifted_refused k (refused m p) n q e = (p, cc, cc)

shifted_shifted : {A : Type 0} (k m : ℕ) (r : Reading A) → shifted k (shifted m r) ≡ shifted (k + m) r
shifted_shifted k m (taken a u) = simp add_assoc
shifted_shifted k m (refused n p) = simp add_assoc

pub shifted_mapped : {A B : Type 0} (k : ℕ) (f : A → B) (r : Reading A) → shifted k (mapped f r) ≡ mapped f (shifted k r)
shifted_mapped k f (taken a u) = refl
shifted_mapped k f (refused n p) = refl

pub shifted_zero : {A : Type 0} (r : Reading A) → shifted 0 r ≡ r
shifted_zero (taken a u) = simp zero-add
shifted_zero (refused n p) = simp zero-add

-- a refusal at another place, and a value as it is
relocated_at : {A : Type 0} (at : ℕ) (r : Reading A) (k p : ℕ) → shifted at r ≡ refused k (at + p) → shifted at (relocated bytes_place r) ≡ refused k (at + bytes_place k p)
relocated_at at (taken a u) k p e = let z : ◌≡◌ {A = ℕ} 0 1 = cc in absurd (omega arith)
relocated_at at (refused n q) k p e =
    let same : n ≡ k = cc in
    let sum : at + q ≡ at + p = cc in
    let there : q ≡ p = omega arith in
    ap (λ (x : ℕ). refused x (at + bytes_place x q)) same ∙ ap (λ (x : ℕ). refused k (at + bytes_place k x)) there

relocated_taken : {A : Type 0} (at : ℕ) (r : Reading A) (a : A) (m : ℕ) → shifted at r ≡ taken a m → shifted at (relocated bytes_place r) ≡ taken a m
relocated_taken at (taken b u) a m e = e
relocated_taken at (refused n p) a m e = let z : ◌≡◌ {A = ℕ} 0 1 = cc in absurd (omega arith)

-- after a value, the rest is read at the place after it
module _ {A B : Type 0} (p : List ℕ → Reading A) (f : A → List ℕ → Reading B) (s : List ℕ) (at : ℕ) where
  pub then_taken : (a : A) (m : ℕ) → shifted at (p (drop at s)) ≡ taken a m → shifted at (and_then (p (drop at s)) f (drop at s)) ≡ shifted m (f a (drop m s))
  then_taken a m e =
      let w = unshifted at (p (drop at s)) a m e in
      simp (w.1, shifted_shifted, drop-drop, w.2)

  pub then_refused : (k q : ℕ) → shifted at (p (drop at s)) ≡ refused k q → shifted at (and_then (p (drop at s)) f (drop at s)) ≡ refused k q
  then_refused k q e =
      let w = unshifted_refused at (p (drop at s)) k q e in
      simp (w.1, w.2)

-- a number

pub number_short : {s : List ℕ} {at k : ℕ} → length s - at < k → Reads (number k) s at (refused 1 at)
unfolding read read_at
number_short {s} {at} {k} h = record { is = simp (length-drop, lt-leb k (length s - at) h, add-zero) }

pub number_whole : (s : List ℕ) (at k : ℕ) → k ≤ length s - at → Reads (number k) s at (taken (big_endian k (drop at s)) (at + k))
unfolding read read_at
number_whole s at k h = record { is = simp (length-drop, le-leb k (length s - at) h) }

module _ {A : Type 0} {F : Format A} {s : List ℕ} {at : ℕ} where
  -- a value that is tested

  pub checked_refused : {k : ℕ} {test : A → Bool} {fault : A → ℕ} {n q : ℕ} → Reads F s at (refused n q) → Reads (checked_at k test fault F) s at (refused n q)
  unfolding read read_at
  checked_refused h =
      let w = unshifted_refused at (read F (drop at s)) _ _ h.is in
      record { is = simp (w.1, w.2) }

  -- the fault's position is within the bytes that were taken
  pub checked_failed_at : {k : ℕ} {test : A → Bool} {fault : A → ℕ} {a : A} {m : ℕ}
      → Reads F s at (taken a m) → test a ≡ false → Reads (checked_at k test fault F) s at (refused k (at + min (fault a) (m - at)))
  unfolding read read_at
  checked_failed_at {fault = fault} {a = a} {m = m} h e =
      let w = unshifted at (read F (drop at s)) _ _ h.is in
      let used : m - at ≡ w.0 = omega (arith, w.2) in
      record { is = simp (w.1, e, used) }

  pub checked_failed : {k : ℕ} {test : A → Bool} {a : A} {m : ℕ} → Reads F s at (taken a m) → test a ≡ false → Reads (checked k test F) s at (refused k at)
  checked_failed {k = k} {m = m} h e = record { is = (checked_failed_at h e).is ∙ ap (refused k) (rw (zero-min (m - at)) (add-zero at)) }

  pub checked_passed : {k : ℕ} {test : A → Bool} {fault : A → ℕ} {a : A} {m : ℕ} → Reads F s at (taken a m) → test a ≡ true → Reads (checked_at k test fault F) s at (taken a m)
  unfolding read read_at
  checked_passed h e =
      let w = unshifted at (read F (drop at s)) _ _ h.is in
      record { is = simp (w.1, e, w.2) }

  -- a value that stands for another

  pub via_refused : {B : Type 0} {to : A → B} {from : B → A} {back : (a : A) → from (to a) ≡ a} {forth : (b : B) → to (from b) ≡ b} {n q : ℕ}
      → Reads F s at (refused n q) → Reads (via to from back forth F) s at (refused n q)
  unfolding read read_at
  via_refused {to = to} h = record { is = shifted_mapped at to (read F (drop at s)) ∙ ap (mapped to) h.is }

  pub via_taken : {B : Type 0} {to : A → B} {from : B → A} {back : (a : A) → from (to a) ≡ a} {forth : (b : B) → to (from b) ≡ b} {a : A} {m : ℕ}
      → Reads F s at (taken a m) → Reads (via to from back forth F) s at (taken (to a) m)
  unfolding read read_at
  via_taken {to = to} h = record { is = shifted_mapped at to (read F (drop at s)) ∙ ap (mapped to) h.is }

  -- a value, and another after it

  pub first_refused : {B : A → Type 0} {G : (a : A) → Format (B a)} {n q : ℕ} → Reads F s at (refused n q) → Reads (pair F G) s at (refused n q)
  unfolding read read_at
  first_refused {G = G} h = record { is = then_refused (read F) (λ a t. mapped (λ b. (a, b)) (read (G a) t)) s at _ _ h.is }

  pub both_read : {B : A → Type 0} {G : (a : A) → Format (B a)} {a : A} {m : ℕ} {r : Reading (B a)}
      → Reads F s at (taken a m) → Reads (G a) s m r → Reads (pair F G) s at (mapped (λ b. (a, b)) r)
  unfolding read read_at
  both_read {G = G} {a = a} {m = m} h k =
      record { is = then_taken (read F) (λ a t. mapped (λ b. (a, b)) (read (G a) t)) s at a m h.is ∙ shifted_mapped m (λ b. (a, b)) (read (G a) (drop m s)) ∙ ap (mapped (λ b. (a, b))) k.is }

  -- reading a part that begins at a place is reading there

  pub part_read_lem : {r : Reading A} → Reads F (drop at s) 0 r → Reads F s at (shifted at r)
  unfolding read_at
  part_read_lem h = record { is = ap (shifted at) (sym (shifted_zero (read F (drop at s))) ∙ h.is) }

  -- what is read ends within the bytes

  pub ends : {a : A} {m : ℕ} → at ≤ length s → Reads F s at (taken a m) → (at ≤ m) × (m ≤ length s)
  unfolding read_at
  ends {a = a} {m = m} h r =
      let w = unshifted at (read F (drop at s)) a m r.is in
      let u : w.0 ≤ length s - at = rw (w.1, length-drop) at (within F (drop at s)) in
      (omega (arith, w.2), omega (arith, w.2))

pub refused_within : {A : Type 0} {F : Format A} {s : List ℕ} {at k q : ℕ} → at ≤ length s → Reads F s at (refused k q) → q ≤ length s
unfolding read_at
refused_within {A} {F} {s} {at} {k} {q} h r =
    let w = unshifted_refused at (read F (drop at s)) k q r.is in
    let u : w.0 ≤ length s - at = rw (w.1, length-drop) at (within F (drop at s)) in
    omega (arith, w.2)

-- a number takes its bytes, or is refused where it begins

by_room : (k n : ℕ) {P : Type 0} → (k ≤ n → P) → (n < k → P) → P
by_room k n {P} f g = go (dec_le k n)
  where
    go : Dec (k ≤ n) → P
    go (yes w) = f w
    go (no w) = g (omega arith)

pub ends_word : {k : ℕ} {s : List ℕ} {at n m : ℕ} → Reads (number (suc k)) s at (taken n m) → (m ≡ at + suc k) × (m ≤ length s)
ends_word {k} {s} {at} {n} {m} h =
    by_room (suc k) (length s - at)
    (λ w. let q : m ≡ at + suc k = cc (sym h.is ∙ (number_whole s at (suc k) w).is) in (q, omega arith))
    (λ w. let z : ◌≡◌ {A = ℕ} 0 1 = cc (sym h.is ∙ (number_short {s = s} {at = at} {k = suc k} w).is) in absurd (omega arith))

pub number_refused : {k : ℕ} {s : List ℕ} {at n q : ℕ} → Reads (number k) s at (refused n q) → q ≡ at
number_refused {k} {s} {at} {n} {q} h =
    by_room k (length s - at)
    (λ w. let z : ◌≡◌ {A = ℕ} 0 1 = cc (sym h.is ∙ (number_whole s at k w).is) in absurd (omega arith))
    (λ w. cc (sym h.is ∙ (number_short {s = s} {at = at} {k = k} w).is))

-- a string or an opaque: its length was read as n, up to the place m

pub length_refused : {C : Format ℕ} {s : List ℕ} {at n q : ℕ} → Reads C s at (refused n q) → q ≡ at → Reads (bytes C) s at (refused n q)
unfolding read read_at
length_refused {C} {s} {at} {n} {q} h e =
    let here : q ≡ at + 0 = e ∙ sym (add-zero at) in
    record {
      is =
          relocated_at at (and_then (read C (drop at s)) contents (drop at s)) n 0 (then_refused (read C) contents s at n q h.is ∙ ap (refused n) here)
          ∙ ap (λ (p : ℕ). refused n (at + p)) (place_start n)
          ∙ ap (refused n) (sym here);
    }

module _ {C : Format ℕ} {s : List ℕ} {at n m : ℕ} (h : Reads C s at (taken n m)) where
  after_length_lem : shifted at (and_then (read C (drop at s)) contents (drop at s)) ≡ shifted m (contents n (drop m s))
  unfolding read_at
  after_length_lem = then_taken (read C) contents s at n m h.is

  begins : m ≡ at + (m - at)
  unfolding read_at
  begins = let w = unshifted at (read C (drop at s)) n m h.is in omega (arith, w.2)

  pub cut_off : length s - m < padded n → Reads (bytes C) s at (refused 1 at)
  unfolding read read_at
  cut_off k = record {
    is =
        relocated_at at (and_then (read C (drop at s)) contents (drop at s)) 1 (m - at)
        (after_length_lem ∙ (simp (length-drop, lt-leb (padded n) (length s - m) k, add-zero)) ∙ ap (refused 1) begins)
        ∙ ap (refused 1) (add-zero at);
  }

  module _ (k : padded n ≤ length s - m) where
    -- a pad byte that is not zero, at its place
    pub bad_pad : all_zero (take (padded n - n) (drop (m + n) s)) ≡ false → Reads (bytes C) s at (refused 6 (m + (n + zeros_up_to (take (padded n - n) (drop (m + n) s)))))
    unfolding read read_at
    bad_pad z =
        let zeros : ℕ = zeros_up_to (take (padded n - n) (drop (m + n) s)) in
        let there : m + (n + zeros) ≡ at + (m - at + (n + zeros)) = omega (arith, begins) in
        record {
          is =
              relocated_at at (and_then (read C (drop at s)) contents (drop at s)) 6 (m - at + (n + zeros))
              (after_length_lem ∙ (simp (length-drop, le-leb (padded n) (length s - m) k, drop-drop, z)) ∙ ap (refused 6) there)
              ∙ ap (refused 6) (sym there);
        }

    pub bytes_read : all_zero (take (padded n - n) (drop (m + n) s)) ≡ true → Reads (bytes C) s at (taken (take n (drop m s)) (m + padded n))
    unfolding read read_at
    bytes_read z =
        record { is = relocated_taken at (and_then (read C (drop at s)) contents (drop at s)) _ _ (after_length_lem ∙ simp (length-drop, le-leb (padded n) (length s - m) k, drop-drop, z)) }

-- what an accepted string or opaque is made of: its length, read as its own format says, and its contents after it
pub record Opened (C : Format ℕ) (s : List ℕ) (at : ℕ) (l : List ℕ) (next : ℕ) : Type 0 where
  pub start : ℕ
  pub size : Reads C s at (taken (length l) start)
  pub contents_are : l ≡ take (length l) (drop start s)
  pub ends : next ≡ start + padded (length l)
  pub room : padded (length l) ≤ length s - start

both_passed : (b z : Bool) (t : List ℕ) (p m q : ℕ) (l : List ℕ) (next : ℕ) → shifted m (cond b (cond z (taken t p) (refused 6 q)) (refused 1 0)) ≡ taken l next
    → (b ≡ true) × (l ≡ t) × (next ≡ m + p)
both_passed true true t p m q l next e = (refl, cc, cc)
both_passed true false t p m q l next e = let z : ◌≡◌ {A = ℕ} 0 1 = cc in absurd (omega arith)
both_passed false z t p m q l next e = let z : ◌≡◌ {A = ℕ} 0 1 = cc in absurd (omega arith)

opened_contents : (s : List ℕ) (n m : ℕ) (l : List ℕ) (next : ℕ) → shifted m (contents n (drop m s)) ≡ taken l next
    → (l ≡ take n (drop m s)) × (length l ≡ n) × (next ≡ m + padded n) × (padded n ≤ length s - m)
opened_contents s n m l next e =
    let q = both_passed (leb (padded n) (length (drop m s))) (all_zero (take (padded n - n) (drop n (drop m s)))) (take n (drop m s)) (padded n) m _ l next e in
    let room : padded n ≤ length s - m = rw length-drop at (leb-true (padded n) (length (drop m s)) q.0) in
    (q.1, ap length q.1 ∙ length-take-le n (drop m s) (simp length-drop (omega arith)), q.2, room)

not_relocated : {A : Type 0} (at : ℕ) (r : Reading A) (a : A) (m : ℕ) → shifted at (relocated bytes_place r) ≡ taken a m → shifted at r ≡ taken a m
not_relocated at (taken b u) a m e = e
not_relocated at (refused n p) a m e = let z : ◌≡◌ {A = ℕ} 0 1 = cc in absurd (omega arith)

pub opened : {C : Format ℕ} {s : List ℕ} {at : ℕ} {l : List ℕ} {next : ℕ} → Reads (bytes C) s at (taken l next) → Opened C s at l next
unfolding read read_at
opened {C} {s} {at} {l} {next} h = go (read C (drop at s)) refl
  where
    whole : shifted at (and_then (read C (drop at s)) contents (drop at s)) ≡ taken l next
    whole = not_relocated at (and_then (read C (drop at s)) contents (drop at s)) l next h.is

    go : (r : Reading ℕ) → read C (drop at s) ≡ r → Opened C s at l next
    go (taken n u) q =
        let w = opened_contents s n (at + u) l next (sym (then_taken (read C) contents s at n (at + u) (ap (shifted at) q)) ∙ whole) in
        record {
          start = at + u;
          size = record { is = ap (shifted at) q ∙ ap (λ (k : ℕ). taken k (at + u)) (sym w.1) };
          contents_are = w.0 ∙ ap (λ (k : ℕ). take k (drop (at + u) s)) (sym w.1);
          ends = w.2 ∙ ap (λ (k : ℕ). at + u + padded k) (sym w.1);
          room = rw w.1 w.3;
        }
    go (refused k p) q =
        let z : ◌≡◌ {A = ℕ} 0 1 = cc (sym (then_refused (read C) contents s at k (at + p) (ap (shifted at) q)) ∙ whole) in
        absurd (omega arith)

-- a value that was tested passed the test
pub passed : {A : Type 0} {F : Format A} {s : List ℕ} {at k : ℕ} {test : A → Bool} {fault : A → ℕ} {a : A} {m : ℕ} → Reads (checked_at k test fault F) s at (taken a m) → Reads F s at (taken a m)
unfolding read read_at
passed {A} {F} {s} {at} {k} {test} {fault} {a} {m} h = go (read F (drop at s)) refl
  where
    passes : (b : Bool) (x : A) (u : ℕ) → shifted at (cond b (taken x u) (refused k (min (fault x) u))) ≡ taken a m → taken x (at + u) ≡ taken a m
    passes true x u e = e
    passes false x u e = let z : ◌≡◌ {A = ℕ} 0 1 = cc in absurd (omega arith)

    go : (r : Reading A) → read F (drop at s) ≡ r → Reads F s at (taken a m)
    go (taken x u) q = record { is = ap (shifted at) q ∙ passes (test x) x u (sym (ap (λ (r : Reading A). shifted at (tested k test fault r)) q) ∙ h.is) }
    go (refused n p) q =
        let z : ◌≡◌ {A = ℕ} 0 1 = cc (sym (ap (λ (r : Reading A). shifted at (tested k test fault r)) q) ∙ h.is) in
        absurd (omega arith)
