-- Reading a format and going on is reading its parts and going on from each.
use Rattle.std.specs.Prelude.{Ok, None}
use Prim.Native.Nat.{ℕ, suc, ◌+◌, ◌-◌, ◌≤◌, ◌<◌, min}
use mathlib.Core.List.{List, ◌∷◌}
use mathlib.Core.Path.{◌≡◌, refl, sym, ap, ◌∙◌}
use mathlib.Core.Bool.{Bool, true, false, cond}
use native.Mathlib.Omega.{arith}
use native.Mathlib.Nat.{add-zero, add_assoc, zero-min}
use borrow.Author.Tests.{le-leb, lt-leb}
use lib.ListN.{length, drop}
use lib.Seq.{drop-drop}
use Rattle.xdr.specs.Reading.{Reading, taken, refused, shifted, mapped, tested, and_then, many}
use Rattle.xdr.specs.Number.{big_endian}
use Rattle.xdr.specs.Format.{Format, number, array, pair, checked_at, checked, via, read}
use Rattle.feed.specs.AtOnce.{stop}
use Rattle.feed.specs.Onward.{Rest, onward, then_read, many_read}

onward_shifted : {A : Type 0} (n : ℕ) (r : Reading A) (k : A → Rest) (at : ℕ) (s : List ℕ) → onward (shifted n r) k at s ≡ onward r k (at + n) (drop n s)
onward_shifted n (taken a m) k at s = simp (add_assoc, drop-drop)
onward_shifted n (refused m p) k at s = simp add_assoc

onward_mapped : {A B : Type 0} (f : A → B) (r : Reading A) (k : B → Rest) (at : ℕ) (s : List ℕ) → onward (mapped f r) k at s ≡ onward r (λ a. k (f a)) at s
onward_mapped f (taken a m) k at s = refl
onward_mapped f (refused m p) k at s = refl

onward_then : {A B : Type 0} (r : Reading A) (f : A → List ℕ → Reading B) (k : B → Rest) (at : ℕ) (s : List ℕ)
    → onward (and_then r f s) k at s ≡ onward r (λ a at' t. onward (f a t) k at' t) at s
onward_then (taken a n) f k at s = onward_shifted n (f a (drop n s)) k at s
onward_then (refused n p) f k at s = refl

-- the same going on, whatever is read
pub onward_same : {A : Type 0} (r : Reading A) (k l : A → Rest) (at : ℕ) (s : List ℕ) → ((a : A) (at' : ℕ) (t : List ℕ) → k a at' t ≡ l a at' t) → onward r k at s ≡ onward r l at s
onward_same (taken a n) k l at s h = h a (at + n) (drop n s)
onward_same (refused n p) k l at s h = refl

-- a test, whose fault is at a position of the bytes that were read
onward_tested : {A : Type 0} (n : ℕ) (test : A → Bool) (fault : A → ℕ) (r : Reading A) (k : A → Rest) (at : ℕ) (s : List ℕ)
    → onward (tested n test fault r) k at s ≡ onward r (λ a at' t. cond (test a) (k a at' t) (stop n (at + min (fault a) (at' - at)))) at s
onward_tested n test fault (taken a m) k at s = go (test a)
  where
    size : at + m - at ≡ m
    size = omega arith

    go : (b : Bool) → onward (cond b (taken a m) (refused n (min (fault a) m))) k at s ≡ cond b (k a (at + m) (drop m s)) (stop n (at + min (fault a) (at + m - at)))
    go true = refl
    go false = ap (λ (x : ℕ). stop n (at + min (fault a) x)) (sym size)
onward_tested n test fault (refused m p) k at s = refl

module _ {A : Type 0} (s : List ℕ) (at : ℕ) where
  pub onward_pair : {B : A → Type 0} (F : Format A) (G : (a : A) → Format (B a)) (k : ((a : A) × B a) → Rest)
      → onward (read (pair F G) s) k at s ≡ onward (read F s) (λ a at' t. onward (read (G a) t) (λ b. k (a, b)) at' t) at s
  unfolding read
  onward_pair {B} F G k =
      onward_then (read F s) (λ a t. mapped (λ b. (a, b)) (read (G a) t)) k at s
      ∙ onward_same (read F s) (λ a at' t. onward (mapped (λ b. (a, b)) (read (G a) t)) k at' t) (λ a at' t. onward (read (G a) t) (λ b. k (a, b)) at' t) at s
      (λ a at' t. onward_mapped (λ b. (a, b)) (read (G a) t) k at' t)

  pub onward_checked_at : (F : Format A) (n : ℕ) (test : A → Bool) (fault : A → ℕ) (k : A → Rest)
      → onward (read (checked_at n test fault F) s) k at s ≡ onward (read F s) (λ a at' t. cond (test a) (k a at' t) (stop n (at + min (fault a) (at' - at)))) at s
  unfolding read
  onward_checked_at F n test fault k = onward_tested n test fault (read F s) k at s

  pub onward_checked : (F : Format A) (n : ℕ) (test : A → Bool) (k : A → Rest)
      → onward (read (checked n test F) s) k at s ≡ onward (read F s) (λ a at' t. cond (test a) (k a at' t) (stop n at)) at s
  onward_checked F n test k =
      onward_checked_at F n test (λ a. 0) k
      ∙ onward_same (read F s) (λ a at' t. cond (test a) (k a at' t) (stop n (at + min 0 (at' - at)))) (λ a at' t. cond (test a) (k a at' t) (stop n at)) at s
      (λ a at' t. ap (λ (x : ℕ). cond (test a) (k a at' t) (stop n x)) (ap (λ (x : ℕ). at + x) (zero-min (at' - at)) ∙ add-zero at))

  pub onward_via : {B : Type 0} (to : A → B) (from : B → A) (p : (a : A) → from (to a) ≡ a) (q : (b : B) → to (from b) ≡ b) (F : Format A) (k : B → Rest)
      → onward (read (via to from p q F) s) k at s ≡ onward (read F s) (λ a. k (to a)) at s
  unfolding read
  onward_via to from p q F k = onward_mapped to (read F s) k at s

  pub onward_array : (C : Format ℕ) (F : Format A) (k : Rest) → then_read (array C F) k at s ≡ onward (read C s) (λ n. many_read n F k) at s
  unfolding read
  onward_array C F k = onward_then (read C s) (λ n t. many n (λ u. read F u) t) (λ l. k) at s

  pub onward_many : (n : ℕ) (F : Format A) (k : Rest) → many_read (suc n) F k at s ≡ then_read F (many_read n F k) at s
  onward_many n F k =
      onward_then (read F s) (λ a t. mapped (λ l. a ∷ l) (many n (λ u. read F u) t)) (λ l. k) at s
      ∙ onward_same (read F s) (λ a at' t. onward (mapped (λ l. a ∷ l) (many n (λ u. read F u) t)) (λ l. k) at' t) (λ a. many_read n F k) at s
      (λ a at' t. onward_mapped (λ l. a ∷ l) (many n (λ u. read F u) t) (λ l. k) at' t)

-- none of them
pub onward_none : {A : Type 0} (F : Format A) (k : Rest) (at : ℕ) (s : List ℕ) → many_read 0 F k at s ≡ k at s
onward_none F k at s = simp add-zero

-- a number that is there
pub onward_number : (m : ℕ) (k : ℕ → Rest) (at : ℕ) (s : List ℕ) → m ≤ length s → onward (read (number m) s) k at s ≡ k (big_endian m s) (at + m) (drop m s)
unfolding read
onward_number m k at s h = simp (le-leb m (length s) h)

-- and one that is not
pub onward_short : (m : ℕ) (k : ℕ → Rest) (at : ℕ) (s : List ℕ) → length s < m → onward (read (number m) s) k at s ≡ Ok None
unfolding read
onward_short m k at s h = simp (lt-leb m (length s) h)
