-- What writing changes in a memory, and what it leaves.
use Prim.Native.Nat.{ℕ, zero, suc, ◌+◌, ◌≤◌, ◌<◌}
use mathlib.Core.List.{List, [], ◌∷◌}
use mathlib.Core.Path.{◌≡◌, refl, sym, ap, ◌∙◌}
use mathlib.Core.Bool.{Bool, true, false, ◌&&◌, ◌||◌, cond}
use native.Mathlib.Omega.{arith}
use borrow.Author.Tests.{ltb-true, leb-true, leb-false, eqb-true, eqb-false, eq-eqb, ne_eqb}
use lib.ListN.{length}
use lib.Dec.{leb, ltb, eqb}
use Rattle.xdr.specs.Number.{IsBytes}
use Rattle.xdr.specs.Buffer.{filled}
use Rattle.record.proofs.RisingLaws.{both_true}
use Rattle.promises.specs.Memory.{Memory, Region, bytes_from, bytes_in, stored, written, is_apart}
use Rattle.promises.specs.Merges.{HoldsBytes}

abbrev Reaches : Region → ℕ → Type 0
Reaches r k = (r.at ≤ k) × (k < r.at + r.size)

-- regions that are apart have no address in common, and only they

either_true : (a b : Bool) {P : Type 0} → (a ≡ true → P) → (b ≡ true → P) → (a || b) ≡ true → P
either_true true b f g e = f refl
either_true false b f g e = g e

pub apart_is : (r s : Region) → is_apart r s ≡ true → (k : ℕ) → Reaches r k → Reaches s k → ⊥
apart_is r s e k p q =
    either_true (eqb r.size 0 || eqb s.size 0) (leb (r.at + r.size) s.at || leb (s.at + s.size) r.at)
    (either_true (eqb r.size 0) (eqb s.size 0) (λ h. let z = eqb-true r.size 0 h in omega arith) (λ h. let z = eqb-true s.size 0 h in omega arith))
    (either_true (leb (r.at + r.size) s.at) (leb (s.at + s.size) r.at) (λ h. let z = leb-true (r.at + r.size) s.at h in omega arith) (λ h. let z = leb-true (s.at + s.size) r.at h in omega arith))
    e

pub apart_test : (r s : Region) → ((k : ℕ) → Reaches r k → Reaches s k → ⊥) → is_apart r s ≡ true
apart_test r s none = go (eqb r.size 0) (eqb s.size 0) (leb (r.at + r.size) s.at) (leb (s.at + s.size) r.at) (leb r.at s.at) refl refl refl refl refl
  where
    go : (a b c d t : Bool) → eqb r.size 0 ≡ a → eqb s.size 0 ≡ b → leb (r.at + r.size) s.at ≡ c → leb (s.at + s.size) r.at ≡ d → leb r.at s.at ≡ t
        → ((a || b) || (c || d)) ≡ true
    go true b c d t p q u v w = refl
    go false true c d t p q u v w = refl
    go false false true d t p q u v w = refl
    go false false false true t p q u v w = refl
    go false false false false true p q u v w =
        let y = eqb-false s.size 0 q in
        let x = leb-true r.at s.at w in
        let z = leb-false (r.at + r.size) s.at u in
        absurd (none s.at (omega arith, omega arith) (omega arith, omega arith))
    go false false false false false p q u v w =
        let y = eqb-false r.size 0 p in
        let x = leb-false r.at s.at w in
        let z = leb-false (s.at + s.size) r.at v in
        absurd (none r.at (omega arith, omega arith) (omega arith, omega arith))

-- one byte

stored_same : (m : Memory) (at b : ℕ) → stored m at b at ≡ b
stored_same m at b = ap (λ (t : Bool). cond t b (m at)) (eq-eqb at at refl)

stored_other : (m : Memory) (at b k : ℕ) → (k ≡ at → ⊥) → stored m at b k ≡ m k
stored_other m at b k n = ap (λ (t : Bool). cond t b (m k)) (ne_eqb k at n)

-- the byte that is there already
stored_back : (m : Memory) (at : ℕ) → stored m at (m at) ≡ m
stored_back m at = λ i k. go k (eqb k at) refl i
  where
    go : (k : ℕ) (t : Bool) → eqb k at ≡ t → cond t (m at) (m k) ≡ m k
    go k true e = ap m (sym (eqb-true k at e))
    go k false e = refl

-- bytes

pub written_elsewhere : (m : Memory) (at : ℕ) (l : List ℕ) (k : ℕ) → (at ≤ k → k < at + length l → ⊥) → written m at l k ≡ m k
written_elsewhere m at [] k h = refl
written_elsewhere m at (b ∷ l) k h = written_elsewhere (stored m at b) (suc at) l k (λ i j. h (omega arith) (omega arith)) ∙ stored_other m at b k (λ e. h (omega arith) (omega arith))

first_written : (m : Memory) (at b : ℕ) (l : List ℕ) → written m at (b ∷ l) at ≡ b
first_written m at b l = written_elsewhere (stored m at b) (suc at) l at (λ i j. omega arith) ∙ stored_same m at b

pub bytes_written : (m : Memory) (at : ℕ) (l : List ℕ) → bytes_from (written m at l) at (length l) ≡ l
bytes_written m at [] = refl
bytes_written m at (b ∷ l) = let e = first_written m at b l in let f = bytes_written (stored m at b) (suc at) l in λ i. e i ∷ f i

bytes_elsewhere : (m : Memory) (at : ℕ) (l : List ℕ) (p n : ℕ) → ((k : ℕ) → p ≤ k → k < p + n → at ≤ k → k < at + length l → ⊥) → bytes_from (written m at l) p n ≡ bytes_from m p n
bytes_elsewhere m at l p zero h = refl
bytes_elsewhere m at l p (suc n) h =
    let e : written m at l p ≡ m p = written_elsewhere m at l p (λ i j. h p (omega arith) (omega arith) i j) in
    let f = bytes_elsewhere m at l (suc p) n (λ k i j u v. h k (omega arith) (omega arith) u v) in
    λ i. e i ∷ f i

pub bytes_apart : (m : Memory) (at : ℕ) (l : List ℕ) (r : Region) → is_apart r (record { at = at; size = length l }) ≡ true → bytes_in (written m at l) r ≡ bytes_in m r
bytes_apart m at l r e = bytes_elsewhere m at l r.at r.size (λ k i j u v. apart_is r (record { at = at; size = length l }) e k (i, j) (u, v))

-- the bytes that are there already
pub written_back : (m : Memory) (at n : ℕ) → written m at (bytes_from m at n) ≡ m
written_back m at zero = refl
written_back m at (suc n) = ap (λ (o : Memory). written o (suc at) (bytes_from m (suc at) n)) (stored_back m at) ∙ written_back m (suc at) n

-- a buffer of n bytes, whose first bytes were filled
pub written_filled : (m : Memory) (at : ℕ) (l : List ℕ) (n : ℕ) → length l ≤ n → written m at (filled (bytes_from m at n) l) ≡ written m at l
written_filled m at [] n h = written_back m at n
written_filled m at (b ∷ l) zero h = absurd (omega arith)
written_filled m at (b ∷ l) (suc n) h =
    let o = stored m at b in
    let e : bytes_from o (suc at) n ≡ bytes_from m (suc at) n = bytes_elsewhere m at (b ∷ []) (suc at) n (λ k i j u v. omega arith) in
    ap (λ (x : List ℕ). written o (suc at) (filled x l)) (sym e) ∙ written_filled o (suc at) l n (omega arith)

-- a memory of bytes
pub holds_bytes : (m : Memory) (at n : ℕ) → HoldsBytes m → IsBytes (bytes_from m at n)
holds_bytes m at zero h i = omega arith
holds_bytes m at (suc n) h zero = h at
holds_bytes m at (suc n) h (suc i) = holds_bytes m (suc at) n h i

abbrev are_bytes : List ℕ → Bool
are_bytes [] = true
are_bytes (b ∷ l) = ltb b 256 && are_bytes l

pub holds_written : (m : Memory) (at : ℕ) (l : List ℕ) → HoldsBytes m → are_bytes l ≡ true → HoldsBytes (written m at l)
holds_written m at [] h e = h
holds_written m at (b ∷ l) h e = let p = both_true (ltb b 256) (are_bytes l) e in holds_written (stored m at b) (suc at) l (λ k. one k (eqb k at) (ltb-true b 256 p.0)) p.1
  where
    one : (k : ℕ) (t : Bool) → b < 256 → cond t b (m k) < 256
    one k true i = i
    one k false i = h k
