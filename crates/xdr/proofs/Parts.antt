-- What a reading is made of: the readings of its parts.
use Prim.Native.Nat.{ℕ, zero, suc, ◌+◌, ◌-◌, ◌≤◌, ◌<◌, min}
use mathlib.Core.List.{List, [], ◌∷◌, ◌++◌}
use mathlib.Core.Path.{◌≡◌, refl, sym, ap, subst, ◌∙◌}
use mathlib.Core.Bool.{Bool, true, false, cond}
use native.Mathlib.Omega.{arith}
use native.Mathlib.Decide.{dec_le}
use lib.ListN.{length, drop}
use Rattle.xdr.specs.Reading.{Reading, taken, refused, shifted, mapped, tested, and_then, many}
use Rattle.xdr.specs.Number.{big_endian}
use Rattle.xdr.specs.Format.{Format, number, array, pair, checked_at, via, read, read_at, encode, Valid}
use Rattle.xdr.proofs.RoundTrip.{round}
use Rattle.xdr.proofs.Steps.{Reads, number_short, number_whole, shifted_mapped, then_taken, then_refused}

-- a number is that of its bytes

pub number_value : {k : ℕ} {s : List ℕ} {at n m : ℕ} → Reads (number k) s at (taken n m) → n ≡ big_endian k (drop at s)
number_value {k} {s} {at} {n} {m} h = go (dec_le k (length s - at))
  where
    go : Dec (k ≤ length s - at) → n ≡ big_endian k (drop at s)
    go (yes w) = cc (sym h.is ∙ (number_whole s at k w).is)
    go (no w) = let z : ◌≡◌ {A = ℕ} 0 1 = cc (sym h.is ∙ (number_short {s = s} {at = at} {k = k} (omega arith)).is) in absurd (omega arith)

-- where a number is refused its bytes are not there
pub number_missing : {k : ℕ} {s : List ℕ} {at n q : ℕ} → Reads (number k) s at (refused n q) → length s < at + k
number_missing {k} {s} {at} {n} {q} h = go (dec_le k (length s - at))
  where
    go : Dec (k ≤ length s - at) → length s < at + k
    go (yes w) = let z : ◌≡◌ {A = ℕ} 0 1 = cc (sym h.is ∙ (number_whole s at k w).is) in absurd (omega arith)
    go (no w) = omega arith

no_value : {A : Type 0} {a : A} {k m p : ℕ} {P : Type 0} → refused k p ≡ taken a m → P
no_value e = let z : ◌≡◌ {A = ℕ} 0 1 = cc in absurd (omega arith)

-- a value that stands for another

pub via_parts : {A B : Type 0} {F : Format A} {to : A → B} {from : B → A} {back : (a : A) → from (to a) ≡ a} {forth : (b : B) → to (from b) ≡ b} {s : List ℕ} {at : ℕ} {b : B} {m : ℕ}
    → Reads (via to from back forth F) s at (taken b m) → Reads F s at (taken (from b) m)
unfolding read read_at
via_parts {A} {B} {F} {to} {from} {back} {forth} {s} {at} {b} {m} h = go (read F (drop at s)) refl
  where
    go : (r : Reading A) → read F (drop at s) ≡ r → Reads F s at (taken (from b) m)
    go (taken a u) q =
        let e : taken (to a) (at + u) ≡ taken b m = sym (ap (λ (r : Reading A). shifted at (mapped to r)) q) ∙ h.is in
        let same : from b ≡ a = ap from (sym (cc)) ∙ back a in
        let ends : m ≡ at + u = cc in
        record { is = ap (shifted at) q ∙ cc }
    go (refused k p) q = no_value (sym (ap (λ (r : Reading A). shifted at (mapped to r)) q) ∙ h.is)

-- one reading after another

after : {A B : Type 0} (p : List ℕ → Reading A) (f : A → List ℕ → Reading B) (s : List ℕ) (at : ℕ) (b : B) (m : ℕ)
    → shifted at (and_then (p (drop at s)) f (drop at s)) ≡ taken b m
    → (a : A) × (k : ℕ) × (shifted at (p (drop at s)) ≡ taken a k) × (shifted k (f a (drop k s)) ≡ taken b m)
after {A} {B} p f s at b m e = go (p (drop at s)) refl
  where
    go : (r : Reading A) → p (drop at s) ≡ r → (a : A) × (k : ℕ) × (shifted at (p (drop at s)) ≡ taken a k) × (shifted k (f a (drop k s)) ≡ taken b m)
    go (taken a u) q =
        let here : shifted at (p (drop at s)) ≡ taken a (at + u) = ap (shifted at) q in
        (a, at + u, here, sym (then_taken p f s at a (at + u) here) ∙ e)
    go (refused k j) q = no_value (sym (then_refused p f s at k (at + j) (ap (shifted at) q)) ∙ e)

-- the readings of a pair

unmapped : {A B : Type 0} (f : A → B) (r : Reading A) (b : B) (m : ℕ) → mapped f r ≡ taken b m → (a : A) × (r ≡ taken a m) × (f a ≡ b)
unmapped f (taken a u) b m e = (a, cc, cc)
unmapped f (refused k p) b m e = no_value e

pub pair_parts : {A : Type 0} {B : A → Type 0} {F : Format A} {G : (a : A) → Format (B a)} {s : List ℕ} {at : ℕ} {p : (a : A) × B a} {m : ℕ}
    → Reads (pair F G) s at (taken p m) → (k : ℕ) × Reads F s at (taken p.0 k) × Reads (G p.0) s k (taken p.1 m)
unfolding read read_at
pair_parts {A} {B} {F} {G} {s} {at} {p} {m} h =
    let q = after (read F) (λ a t. mapped (λ b. (a, b)) (read (G a) t)) s at p m h.is in
    let w = unmapped (λ b. (q.0, b)) (shifted q.1 (read (G q.0) (drop q.1 s))) p m (sym (shifted_mapped q.1 (λ b. (q.0, b)) (read (G q.0) (drop q.1 s))) ∙ q.3) in
    subst (λ (x : (a : A) × B a). (k : ℕ) × Reads F s at (taken x.0 k) × Reads (G x.0) s k (taken x.1 m)) w.2
    (q.1, record { is = q.2 }, record { is = w.1 })

-- the elements of an array, one after another from a place up to another

abbrev pub Elements : {A : Type 0} → Format A → List ℕ → ℕ → List A → ℕ → Type 0
Elements F s at [] m = m ≡ at
Elements F s at (a ∷ l) m = (k : ℕ) × Reads F s at (taken a k) × Elements F s k l m

elements_read : {A : Type 0} (F : Format A) (s : List ℕ) (n at : ℕ) (l : List A) (m : ℕ) → shifted at (many n (read F) (drop at s)) ≡ taken l m → (length l ≡ n) × Elements F s at l m
unfolding read_at
elements_read F s zero at l m e =
    let none : [] ≡ l = cc in
    let ends : m ≡ at + 0 = cc in
    subst (λ (x : List _). (length x ≡ 0) × Elements F s at x m) none (refl, omega arith)
elements_read F s (suc n) at l m e =
    let q = after (read F) (λ a t. mapped (λ y. a ∷ y) (many n (read F) t)) s at l m e in
    let w = unmapped (λ y. q.0 ∷ y) (shifted q.1 (many n (read F) (drop q.1 s))) l m (sym (shifted_mapped q.1 (λ y. q.0 ∷ y) (many n (read F) (drop q.1 s))) ∙ q.3) in
    let r = elements_read F s n q.1 w.0 m w.1 in
    subst (λ (x : List _). (length x ≡ suc n) × Elements F s at x m) w.2 (ap suc r.0, (q.1, record { is = q.2 }, r.1))

pub array_parts : {A : Type 0} {C : Format ℕ} {F : Format A} {s : List ℕ} {at : ℕ} {l : List A} {m : ℕ}
    → Reads (array C F) s at (taken l m) → (k : ℕ) × Reads C s at (taken (length l) k) × Elements F s k l m
unfolding read read_at
array_parts {A} {C} {F} {s} {at} {l} {m} h =
    let q = after (read C) (λ n. many n (read F)) s at l m h.is in
    let w = elements_read F s q.0 q.1 l m q.3 in
    (q.1, record { is = q.2 ∙ ap (λ (n : ℕ). taken n q.1) (sym w.0) }, w.1)

-- a value that was tested passes the test
pub test_passed : {A : Type 0} {F : Format A} {s : List ℕ} {at k : ℕ} {test : A → Bool} {fault : A → ℕ} {a : A} {m : ℕ} → Reads (checked_at k test fault F) s at (taken a m) → test a ≡ true
unfolding read read_at
test_passed {A} {F} {s} {at} {k} {test} {fault} {a} {m} h = go (read F (drop at s)) refl
  where
    passes : (x : A) (u : ℕ) (b : Bool) → test x ≡ b → shifted at (cond b (taken x u) (refused k (min (fault x) u))) ≡ taken a m → test a ≡ true
    passes x u true t e = let same : x ≡ a = cc in ap test (sym same) ∙ t
    passes x u false t e = no_value e

    go : (r : Reading A) → read F (drop at s) ≡ r → test a ≡ true
    go (taken x u) q = passes x u (test x) refl (sym (ap (λ (r : Reading A). shifted at (tested k test fault r)) q) ∙ h.is)
    go (refused n p) q = no_value (sym (ap (λ (r : Reading A). shifted at (tested k test fault r)) q) ∙ h.is)

-- where an encoding stands its value is read
pub encoding_read : {A : Type 0} (F : Format A) (a : A) (s : List ℕ) (at : ℕ) (t : List ℕ) → Valid F a → drop at s ≡ encode F a ++ t → Reads F s at (taken a (at + length (encode F a)))
unfolding read_at
encoding_read F a s at t v e = record { is = ap (λ (l : List ℕ). shifted at (read F l)) e ∙ ap (shifted at) (round F a t v) }
