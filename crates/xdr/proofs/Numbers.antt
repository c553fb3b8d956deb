-- The numbers that reading refuses with: those of the format's own tests, 1 where bytes are missing and 6 for a pad.
use Prim.Native.Nat.{ℕ, zero, suc}
use mathlib.Core.List.{List, ◌∷◌}
use mathlib.Core.Path.{◌≡◌, subst}
use mathlib.Core.Bool.{Bool, true, false, cond}
use lib.ListN.{length, drop}
use lib.Dec.{leb}
use Rattle.xdr.specs.Reading.{Reading, taken, refused, shifted, mapped, relocated, tested, and_then, many}
use Rattle.xdr.specs.Format.{Format, nothing, number, bytes, array, pair, checked_at, via, pad_of, contents, bytes_place, read}
use Rattle.xdr.specs.Pad.{padded, all_zero}

-- the numbers of a format's tests have P
abbrev pub NumbersIn : {A : Type 0} → (P : ℕ → Type 0) → Format A → Type 0
NumbersIn P nothing = Unit {0}
NumbersIn P (number k) = Unit {0}
NumbersIn P (bytes C) = NumbersIn P C
NumbersIn P (array C F) = NumbersIn P C × NumbersIn P F
NumbersIn P (pair {A} F G) = NumbersIn P F × ((a : A) → NumbersIn P (G a))
NumbersIn P (checked_at k test fault F) = P k × NumbersIn P F
NumbersIn P (via to from _ _ F) = NumbersIn P F

-- so has the number of a refusal, if there is one
abbrev pub RefusedIn : {A : Type 0} → (P : ℕ → Type 0) → Reading A → Type 0
RefusedIn P (taken a u) = Unit {0}
RefusedIn P (refused k p) = P k

module _ (P : ℕ → Type 0) where
  of_cond : {A : Type 0} (b : Bool) (x y : Reading A) → RefusedIn P x → RefusedIn P y → RefusedIn P (cond b x y)
  of_cond true x y h k = h
  of_cond false x y h k = k

  of_mapped : {A B : Type 0} (f : A → B) (r : Reading A) → RefusedIn P r → RefusedIn P (mapped f r)
  of_mapped f (taken a u) h = tt
  of_mapped f (refused k p) h = h

  of_relocated : {A : Type 0} (place : ℕ → ℕ → ℕ) (r : Reading A) → RefusedIn P r → RefusedIn P (relocated place r)
  of_relocated place (taken a u) h = tt
  of_relocated place (refused k p) h = h

  of_shifted : {A : Type 0} (u : ℕ) (r : Reading A) → RefusedIn P r → RefusedIn P (shifted u r)
  of_shifted u (taken a v) h = tt
  of_shifted u (refused k p) h = h

  of_tested : {A : Type 0} (k : ℕ) (test : A → Bool) (fault : A → ℕ) (r : Reading A) → P k → RefusedIn P r → RefusedIn P (tested k test fault r)
  of_tested k test fault (taken a u) i h = of_cond (test a) (taken a u) (refused k _) tt i
  of_tested k test fault (refused m p) i h = h

  of_then : {A B : Type 0} (r : Reading A) (f : A → List ℕ → Reading B) (s : List ℕ) → RefusedIn P r → ((a : A) (t : List ℕ) → RefusedIn P (f a t)) → RefusedIn P (and_then r f s)
  of_then (taken a u) f s h g = of_shifted u (f a (drop u s)) (g a (drop u s))
  of_then (refused k p) f s h g = h

  of_many : {A : Type 0} (c : ℕ) (p : List ℕ → Reading A) (s : List ℕ) → ((t : List ℕ) → RefusedIn P (p t)) → RefusedIn P (many c p s)
  of_many zero p s h = tt
  of_many (suc c) p s h = of_then (p s) (λ a t. mapped (λ l. a ∷ l) (many c p t)) s (h s) (λ a t. of_mapped (λ l. a ∷ l) (many c p t) (of_many c p t h))

  module _ (one : P 1) (six : P 6) where
    of_contents : (c : ℕ) (s : List ℕ) → RefusedIn P (contents c s)
    of_contents c s =
        of_cond (leb (padded c) (length s)) _ (refused 1 0)
        (of_cond (all_zero (pad_of c s)) (taken _ (padded c)) (refused 6 _) tt six) one

    refused_in : {A : Type 0} (F : Format A) → NumbersIn P F → (s : List ℕ) → RefusedIn P (read F s)
    unfolding read
    refused_in nothing u s = tt
    refused_in (number k) u s = of_cond (leb k (length s)) (taken _ k) (refused 1 0) tt one
    refused_in (bytes C) u s = of_relocated bytes_place (and_then (read C s) contents s) (of_then (read C s) contents s (refused_in C u s) of_contents)
    refused_in (array C F) u s =
        of_then (read C s) (λ c t. many c (λ x. read F x) t) s (refused_in C u.0 s) (λ c t. of_many c (λ x. read F x) t (λ x. refused_in F u.1 x))
    refused_in (pair F G) u s =
        of_then (read F s) (λ a t. mapped (λ b. (a, b)) (read (G a) t)) s (refused_in F u.0 s) (λ a t. of_mapped (λ b. (a, b)) (read (G a) t) (refused_in (G a) (u.1 a) t))
    refused_in (checked_at k test fault F) u s = of_tested k test fault (read F s) u.0 (refused_in F u.1 s)
    refused_in (via to from _ _ F) u s = of_mapped to (read F s) (refused_in F u s)

    -- a reading that is refused has such a number
    pub refused_number : {A : Type 0} (F : Format A) → NumbersIn P F → (s : List ℕ) (k p : ℕ) → read F s ≡ refused k p → P k
    refused_number F u s k p e = subst (RefusedIn P) e (refused_in F u s)
