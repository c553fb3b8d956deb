-- A reading that isn't refused with number 1 is the same when more bytes follow.
use Prim.Native.Nat.{ℕ, zero, suc, ◌+◌, ◌*◌, ◌-◌, ◌^◌, ◌≤◌}
use mathlib.Core.List.{List, [], ◌∷◌, ◌++◌}
use mathlib.Core.Path.{◌≡◌, refl, sym, ap, ◌∙◌}
use mathlib.Core.Bool.{Bool, true, false}
use native.Mathlib.Omega.{arith}
use native.Mathlib.Decide.{dec_le}
use borrow.Author.Tests.{le-leb, lt-leb}
use lib.ListN.{length, drop, length-drop, length-append}
use lib.Seq.{drop-append-le, take-append-le}
use lib.Dec.{eqb}
use Rattle.xdr.specs.Reading.{Reading, taken, refused, shifted, mapped, relocated, tested, and_then, many}
use Rattle.xdr.specs.Number.{big_endian}
use Rattle.xdr.specs.Format.{Format, nothing, number, bytes, array, pair, checked_at, via, contents, bytes_place, read}
use Rattle.xdr.specs.Pad.{padded}
use Rattle.xdr.proofs.Within.{Bounded, within}

-- refused with number 1: the bytes end too early
abbrev pub cut_short : {A : Type 0} → Reading A → Bool
cut_short (taken a n) = false
cut_short (refused k p) = eqb k 1

abbrev pub Steady : {A : Type 0} → (List ℕ → Reading A) → Type 0
Steady p = (s t : List ℕ) → cut_short (p s) ≡ false → p (s ++ t) ≡ p s

cut_shifted : {A : Type 0} (n : ℕ) (r : Reading A) → cut_short (shifted n r) ≡ cut_short r
cut_shifted n (taken a u) = refl
cut_shifted n (refused k p) = refl

cut_mapped : {A B : Type 0} (f : A → B) (r : Reading A) → cut_short (mapped f r) ≡ cut_short r
cut_mapped f (taken a u) = refl
cut_mapped f (refused k p) = refl

cut_relocated : {A : Type 0} (place : ℕ → ℕ → ℕ) (r : Reading A) → cut_short (relocated place r) ≡ cut_short r
cut_relocated place (taken a u) = refl
cut_relocated place (refused k p) = refl

cut_tested : {A : Type 0} (k : ℕ) (test : A → Bool) (fault : A → ℕ) (r : Reading A) → cut_short (tested k test fault r) ≡ false → cut_short r ≡ false
cut_tested k test fault (taken a u) h = refl
cut_tested k test fault (refused m p) h = h

steady_mapped : {A B : Type 0} (f : A → B) (p : List ℕ → Reading A) → Steady p → Steady (λ s. mapped f (p s))
steady_mapped f p h s t e = ap (mapped f) (h s t (sym (cut_mapped f (p s)) ∙ e))

steady_then : {A B : Type 0} (p : List ℕ → Reading A) (f : A → List ℕ → Reading B)
    → Bounded p → Steady p → ((a : A) → Steady (f a)) → Steady (λ s. and_then (p s) f s)
steady_then {A} {B} p f b h g s t e = go (p s) refl e
  where
    go : (r : Reading A) → p s ≡ r → cut_short (and_then r f s) ≡ false → and_then (p (s ++ t)) f (s ++ t) ≡ and_then r f s
    go (taken a n) q e =
        let room : n ≤ length s = rw q at (b s) in
        let same : p (s ++ t) ≡ taken a n = h s t (ap cut_short q) ∙ q in
        ap (λ (r : Reading A). and_then r f (s ++ t)) same
        ∙ ap (λ (l : List ℕ). shifted n (f a l)) (drop-append-le n s t room)
        ∙ ap (shifted n) (g a (drop n s) t (sym (cut_shifted n (f a (drop n s))) ∙ e))
    go (refused k p') q e = ap (λ (r : Reading A). and_then r f (s ++ t)) (h s t (ap cut_short q ∙ e) ∙ q)

steady_many : {A : Type 0} (n : ℕ) (p : List ℕ → Reading A) → Bounded p → Steady p → Steady (many n p)
steady_many zero p b h = λ s t e. refl
steady_many (suc n) p b h =
    steady_then p (λ a t. mapped (λ l. a ∷ l) (many n p t)) b h (λ a. steady_mapped (λ l. a ∷ l) (many n p) (steady_many n p b h))

steady_contents : (n : ℕ) → Steady (contents n)
steady_contents n s t e = go (dec_le (padded n) (length s)) e
  where
    go : Dec (padded n ≤ length s) → cut_short (contents n s) ≡ false → contents n (s ++ t) ≡ contents n s
    go (yes h) e =
        let more : padded n ≤ length s + length t = omega arith in
        let small : n ≤ length s = omega arith in
        let pad : padded n - n ≤ length (drop n s) = simp length-drop (omega arith) in
        simp (length-append, le-leb (padded n) (length s) h, le-leb (padded n) (length s + length t) more, drop-append-le n s t small, take-append-le (padded n - n) (drop n s) t pad, take-append-le n s t small)
    go (no h) e =
        let z : ◌≡◌ {A = Bool} true false = (rw (lt-leb (padded n) (length s) (omega arith)) at e) in
        let y : ◌≡◌ {A = ℕ} 0 1 = cc in
        absurd (omega arith)

big_endian_more : (k : ℕ) (s t : List ℕ) → k ≤ length s → big_endian k (s ++ t) ≡ big_endian k s
big_endian_more zero s t h = refl
big_endian_more (suc k) [] t h = absurd (omega arith)
big_endian_more (suc k) (b ∷ s) t h = ap (λ (n : ℕ). b * 256 ^ k + n) (big_endian_more k s t (omega arith))

steady_number : (k : ℕ) → Steady (read (number k))
unfolding read
steady_number k s t e = go (dec_le k (length s)) e
  where
    go : Dec (k ≤ length s) → cut_short (read (number k) s) ≡ false → read (number k) (s ++ t) ≡ read (number k) s
    go (yes h) e =
        let more : k ≤ length s + length t = omega arith in
        simp (length-append, le-leb k (length s) h, le-leb k (length s + length t) more, big_endian_more k s t h)
    go (no h) e =
        let z : ◌≡◌ {A = Bool} true false = (rw (lt-leb k (length s) (omega arith)) at e) in
        let y : ◌≡◌ {A = ℕ} 0 1 = cc in
        absurd (omega arith)

pub steady : {A : Type 0} (F : Format A) → Steady (read F)
unfolding read
steady nothing s t e = refl
steady (number k) s t e = steady_number k s t e
steady (bytes C) s t e =
    ap (relocated bytes_place) (steady_then (read C) contents (within C) (λ s t e. steady C s t e) steady_contents s t (sym (cut_relocated bytes_place (and_then (read C s) contents s)) ∙ e))
steady (array C F) s t e =
    steady_then (read C) (λ n. many n (read F)) (within C) (λ s t e. steady C s t e) (λ n. steady_many n (read F) (within F) (λ s t e. steady F s t e)) s t e
steady (pair F G) s t e =
    steady_then (read F) (λ a t. mapped (λ b. (a, b)) (read (G a) t)) (within F) (λ s t e. steady F s t e)
    (λ a. steady_mapped (λ b. (a, b)) (read (G a)) (λ s t e. steady (G a) s t e)) s t e
steady (checked_at k test fault F) s t e = ap (tested k test fault) (steady F s t (cut_tested k test fault (read F s) e))
steady (via to from _ _ F) s t e = steady_mapped to (read F) (λ s t e. steady F s t e) s t e
