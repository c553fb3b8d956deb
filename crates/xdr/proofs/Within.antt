-- What is read, and where it is refused, is within the bytes given.
use Prim.Native.Nat.{ℕ, zero, suc, ◌+◌, ◌-◌, ◌≤◌, min}
use mathlib.Core.List.{List, [], ◌∷◌}
use mathlib.Core.Path.{◌≡◌, refl}
use mathlib.Core.Bool.{Bool, true, false, cond}
use native.Mathlib.Omega.{arith}
use native.Mathlib.Nat.{min-le_right}
use borrow.Author.Tests.{leb-true}
use lib.ListN.{length, drop, length-drop, length-take}
use lib.Dec.{leb, eqb}
use Rattle.xdr.specs.Reading.{Reading, taken, refused, shifted, mapped, relocated, tested, and_then, many}
use Rattle.xdr.specs.Number.{big_endian}
use Rattle.xdr.specs.Format.{Format, nothing, number, bytes, array, pair, checked_at, via, pad_of, contents, bytes_place, read}
use Rattle.xdr.specs.Pad.{padded, zeros_up_to, all_zero}

-- the bytes taken, or the place of the refusal, are at most n
abbrev pub Within : {A : Type 0} → ℕ → Reading A → Type 0
Within n (taken a u) = u ≤ n
Within n (refused k p) = p ≤ n

-- a way of reading that stays within any bytes
abbrev pub Bounded : {A : Type 0} → (List ℕ → Reading A) → Type 0
Bounded p = (s : List ℕ) → Within (length s) (p s)

within_cond : {A : Type 0} (n : ℕ) (b : Bool) (x y : Reading A) → (b ≡ true → Within n x) → Within n y → Within n (cond b x y)
within_cond n true x y h k = h refl
within_cond n false x y h k = k

within_mapped : {A B : Type 0} (f : A → B) (n : ℕ) (r : Reading A) → Within n r → Within n (mapped f r)
within_mapped f n (taken a u) h = h
within_mapped f n (refused k p) h = h

-- a string's refusal is not moved up
pub place_below : (k p : ℕ) → bytes_place k p ≤ p
place_below k p = go (eqb k 6)
  where
    go : (b : Bool) → cond b p 0 ≤ p
    go true = omega arith
    go false = omega arith

pub place_start : (k : ℕ) → bytes_place k 0 ≡ 0
place_start k = let h = place_below k 0 in omega arith

within_relocated : {A : Type 0} (place : ℕ → ℕ → ℕ) → ((k p : ℕ) → place k p ≤ p) → (n : ℕ) (r : Reading A) → Within n r → Within n (relocated place r)
within_relocated place b n (taken a u) h = h
within_relocated place b n (refused k p) h = let low = b k p in omega arith

within_tested : {A : Type 0} (k : ℕ) (test : A → Bool) (fault : A → ℕ) (n : ℕ) (r : Reading A) → Within n r → Within n (tested k test fault r)
within_tested k test fault n (taken a u) h =
    let low : min (fault a) u ≤ u = min-le_right (fault a) u in
    within_cond n (test a) (taken a u) (refused k (min (fault a) u)) (λ e. h) (omega arith)
within_tested k test fault n (refused m p) h = h

within_shifted : {A : Type 0} (u : ℕ) (s : List ℕ) (r : Reading A) → u ≤ length s → Within (length (drop u s)) r → Within (length s) (shifted u r)
within_shifted u s (taken a v) k h = omega (arith, length-drop u s)
within_shifted u s (refused m p) k h = omega (arith, length-drop u s)

within_then : {A B : Type 0} (f : A → List ℕ → Reading B) → ((a : A) → Bounded (f a)) → (s : List ℕ) (r : Reading A) → Within (length s) r → Within (length s) (and_then r f s)
within_then f g s (taken a u) h = within_shifted u s (f a (drop u s)) h (g a (drop u s))
within_then f g s (refused k p) h = h

within_many : {A : Type 0} (n : ℕ) (p : List ℕ → Reading A) → Bounded p → Bounded (many n p)
within_many zero p b s = omega arith
within_many (suc n) p b s =
    within_then (λ a t. mapped (λ l. a ∷ l) (many n p t)) (λ a t. within_mapped (λ l. a ∷ l) (length t) (many n p t) (within_many n p b t)) s (p s) (b s)

pub zeros_within : (l : List ℕ) → zeros_up_to l ≤ length l
zeros_within [] = omega arith
zeros_within (b ∷ l) = go (eqb b 0) (zeros_within l)
  where
    go : (z : Bool) → zeros_up_to l ≤ length l → cond z (suc (zeros_up_to l)) 0 ≤ suc (length l)
    go true h = omega arith
    go false h = omega arith

within_contents : (n : ℕ) → Bounded (contents n)
within_contents n s =
    within_cond (length s) (leb (padded n) (length s)) _ (refused 1 0)
    (λ e. let room = leb-true (padded n) (length s) e in within_cond (length s) (all_zero (pad_of n s)) _ (refused 6 (n + zeros_up_to (pad_of n s))) (λ z. room)
    (omega (arith, zeros_within (pad_of n s), length-take (padded n - n) (drop n s), length-drop n s)))
    (omega arith)

pub within : {A : Type 0} (F : Format A) → Bounded (read F)
unfolding read
within nothing s = omega arith
within (number k) s = within_cond (length s) (leb k (length s)) (taken (big_endian k s) k) (refused 1 0) (λ e. leb-true k (length s) e) (omega arith)
within (bytes C) s = within_relocated bytes_place place_below (length s) (and_then (read C s) contents s) (within_then contents within_contents s (read C s) (within C s))
within (array C F) s = within_then (λ n. many n (read F)) (λ n. within_many n (read F) (λ u. within F u)) s (read C s) (within C s)
within (pair F G) s =
    within_then (λ a t. mapped (λ b. (a, b)) (read (G a) t)) (λ a t. within_mapped (λ b. (a, b)) (length t) (read (G a) t) (within (G a) t)) s (read F s) (within F s)
within (checked_at k test fault F) s = within_tested k test fault (length s) (read F s) (within F s)
within (via to from _ _ F) s = within_mapped to (length s) (read F s) (within F s)
