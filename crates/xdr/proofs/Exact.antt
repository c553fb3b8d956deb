-- What was read of some bytes encodes to exactly those that it took, and is a value of the format.
use Prim.Native.Nat.{ℕ, zero, suc, ◌+◌, ◌-◌, ◌≤◌, ◌<◌}
use mathlib.Core.List.{List, ◌∷◌, ◌++◌}
use mathlib.Core.Path.{◌≡◌, refl, sym, ap, ◌∙◌}
use mathlib.Core.Bool.{Bool, true, false, cond}
use native.Mathlib.Omega.{arith}
use native.Mathlib.Decide.{dec_lt}
use borrow.Author.Tests.{leb-true}
use lib.ListN.{length, take, drop, get_or, replicate, length-drop, length-take, get_or-eq_default}
use lib.Seq.{take-add, get_or-take, length-take-le}
use lib.Dec.{leb}
use Rattle.xdr.specs.Reading.{Reading, taken, refused, shifted, mapped, relocated, tested, and_then, many}
use Rattle.xdr.specs.Number.{big_endian, IsBytes}
use Rattle.xdr.specs.Format.{Format, nothing, number, bytes, array, pair, checked_at, via, pad_of, contents, bytes_place, read, encode_all, encode, AllOf, Valid}
use Rattle.xdr.specs.Pad.{padded, all_zero}
use Rattle.xdr.proofs.NumberLaws.{bytes_drop, digits_read}
use Rattle.xdr.proofs.PadLaws.{zeros_are}

-- the bytes l are those of the value a of the format
abbrev pub Stands : {A : Type 0} → Format A → A → List ℕ → Type 0
Stands F a l = (encode F a ≡ l) × Valid F a

-- what holds of a value and the bytes that it took
abbrev pub Holds : {A : Type 0} → (A → List ℕ → Type 0) → List ℕ → Reading A → Type 0
Holds R s (taken a n) = R a (take n s)
Holds R s (refused k p) = Unit {0}

holds_mapped : {A B : Type 0} (R : A → List ℕ → Type 0) (T : B → List ℕ → Type 0) (g : A → B)
    → ((a : A) (l : List ℕ) → R a l → T (g a) l) → (s : List ℕ) (r : Reading A) → Holds R s r → Holds T s (mapped g r)
holds_mapped R T g j s (taken a n) h = j a (take n s) h
holds_mapped R T g j s (refused k p) h = tt

holds_relocated : {A : Type 0} (R : A → List ℕ → Type 0) (place : ℕ → ℕ → ℕ) (s : List ℕ) (r : Reading A) → Holds R s r → Holds R s (relocated place r)
holds_relocated R place s (taken a n) h = h
holds_relocated R place s (refused k p) h = tt

holds_shifted : {A : Type 0} (S T : A → List ℕ → Type 0) (n : ℕ) (s : List ℕ)
    → ((a : A) (m : List ℕ) → S a m → T a (take n s ++ m)) → (r : Reading A) → Holds S (drop n s) r → Holds T s (shifted n r)
holds_shifted S T n s j (taken a m) h = rw (take-add n m s) (j a (take m (drop n s)) h)
holds_shifted S T n s j (refused k p) h = tt

holds_then : {A B : Type 0} (R : A → List ℕ → Type 0) (S : A → B → List ℕ → Type 0) (T : B → List ℕ → Type 0) (f : A → List ℕ → Reading B)
    → ((a : A) (b : B) (l m : List ℕ) → R a l → S a b m → T b (l ++ m))
    → (s : List ℕ) → ((a : A) (n : ℕ) → Holds (S a) (drop n s) (f a (drop n s)))
    → (r : Reading A) → Holds R s r → Holds T s (and_then r f s)
holds_then R S T f j s g (taken a n) h =
    holds_shifted (S a) T n s (λ b m k. j a b (take n s) m h k) (f a (drop n s)) (g a n)
holds_then R S T f j s g (refused k p) h = tt

-- a list of n values whose encodings, one after another, are the bytes
abbrev pub Listed : {A : Type 0} → (A → List ℕ) → (A → Type 0) → ℕ → List A → List ℕ → Type 0
Listed e Q n l m = (length l ≡ n) × (encode_all e l ≡ m) × AllOf Q l

-- the same of a list that begins with a, and of the bytes after those of a
abbrev Begun : {A : Type 0} → (A → List ℕ) → (A → Type 0) → ℕ → A → List A → List ℕ → Type 0
Begun {A} e Q n a c m = (l : List A) × (c ≡ a ∷ l) × Listed e Q n l m

exact_many : {A : Type 0} (e : A → List ℕ) (Q : A → Type 0) (p : List ℕ → Reading A)
    → ((s : List ℕ) → IsBytes s → Holds (λ a l. (e a ≡ l) × Q a) s (p s))
    → (n : ℕ) (s : List ℕ) → IsBytes s → Holds (Listed e Q n) s (many n p s)
exact_many e Q p h zero s b = (refl, refl, tt)
exact_many {A} e Q p h (suc n) s b =
    holds_then (λ a l. (e a ≡ l) × Q a) (Begun e Q n) (Listed e Q (suc n)) (λ a t. mapped (λ l. a ∷ l) (many n p t))
    join s
    (λ a k. holds_mapped (Listed e Q n) (Begun e Q n a) (λ l. a ∷ l) (λ l m q. (l, refl, q)) (drop k s) (many n p (drop k s))
    (exact_many e Q p h n (drop k s) (bytes_drop k s b)))
    (p s) (h s b)
  where
    join : (a : A) (c : List A) (l m : List ℕ) → (e a ≡ l) × Q a → Begun e Q n a c m → Listed e Q (suc n) c (l ++ m)
    join a c l m q w = rw w.1 (ap suc w.2.0, cc (q.0, w.2.1), (q.1, w.2.2))

bytes_take : (n : ℕ) (s : List ℕ) → IsBytes s → IsBytes (take n s)
bytes_take n s b i = go (dec_lt i n)
  where
    go : Dec (i < n) → get_or (take n s) i 0 < 256
    go (yes h) = rw (get_or-take n s i 0 h) (b i)
    go (no h) = rw (get_or-eq_default (take n s) 0 {n = i} (omega (arith, length-take n s))) (omega arith)

-- n bytes and zeros up to a multiple of four
abbrev pub Padded : ℕ → List ℕ → List ℕ → Type 0
Padded n l m = (length l ≡ n) × (l ++ replicate (padded n - n) 0 ≡ m) × IsBytes l

holds_cond : {A : Type 0} (R : A → List ℕ → Type 0) (s : List ℕ) (b : Bool) (x : Reading A) (k p : ℕ) → (b ≡ true → Holds R s x) → Holds R s (cond b x (refused k p))
holds_cond R s true x k p h = h refl
holds_cond R s false x k p h = tt

exact_contents : (n : ℕ) (s : List ℕ) → IsBytes s → Holds (Padded n) s (contents n s)
exact_contents n s b = holds_cond (Padded n) s (leb (padded n) (length s)) _ 1 0 λ e. holds_cond (Padded n) s (all_zero (pad_of n s)) _ 6 _ λ z.
    let room : padded n ≤ length s = leb-true (padded n) (length s) e in
    let pad : length (take (padded n - n) (drop n s)) ≡ padded n - n = length-take-le (padded n - n) (drop n s) (simp length-drop (omega arith)) in
    let same : take (padded n - n) (drop n s) ≡ replicate (padded n - n) 0 = zeros_are (take (padded n - n) (drop n s)) z ∙ ap (λ (k : ℕ). replicate k 0) pad in
    let whole : n + (padded n - n) ≡ padded n = omega arith in
    (length-take-le n s (omega arith), ap (λ (l : List ℕ). take n s ++ l) (sym same) ∙ sym (take-add n (padded n - n) s) ∙ ap (λ (k : ℕ). take k s) whole, bytes_take n s b)

-- a pair whose first is a, and the bytes of whose second are m
abbrev Second : {A : Type 0} {B : A → Type 0} → ((a : A) → Format (B a)) → A → (a : A) × B a → List ℕ → Type 0
Second {A} {B} G a c m = (y : B a) × (c ≡ (a, y)) × Stands (G a) y m

exact_tested : {A : Type 0} (F : Format A) (k : ℕ) (test : A → Bool) (fault : A → ℕ) (s : List ℕ) (r : Reading A)
    → Holds (Stands F) s r → Holds (Stands (checked_at k test fault F)) s (tested k test fault r)
unfolding encode Valid
exact_tested F k test fault s (taken a n) h =
    holds_cond (Stands (checked_at k test fault F)) s (test a) (taken a n) k _ (λ e. (h.0, (h.1, e)))
exact_tested F k test fault s (refused m p) h = tt

join_bytes : (e : ℕ → List ℕ) (Q : ℕ → Type 0) (n : ℕ) (l c m : List ℕ) → (e n ≡ c) × Q n → Padded n l m
    → (e (length l) ++ (l ++ replicate (padded (length l) - length l) 0) ≡ c ++ m) × (Q (length l) × IsBytes l)
join_bytes e Q n l c m q w = (rw w.0 (cc (q.0, w.1)), (rw w.0 q.1, w.2))

join_array : {A : Type 0} (e : ℕ → List ℕ) (Q : ℕ → Type 0) (d : A → List ℕ) (P : A → Type 0) (n : ℕ) (l : List A) (c m : List ℕ) → (e n ≡ c) × Q n → Listed d P n l m
    → (e (length l) ++ encode_all d l ≡ c ++ m) × (Q (length l) × AllOf P l)
join_array e Q d P n l c m q w = (rw w.0 (cc (q.0, w.1)), (rw w.0 q.1, w.2))

join_pair : {A : Type 0} {B : A → Type 0} (e : A → List ℕ) (Q : A → Type 0) (d : (a : A) → B a → List ℕ) (P : (a : A) → B a → Type 0) (a : A) (p : (a : A) × B a) (c m : List ℕ)
    → (e a ≡ c) × Q a → (y : B a) × (p ≡ (a, y)) × ((d a y ≡ m) × P a y) → (e p.0 ++ d p.0 p.1 ≡ c ++ m) × (Q p.0 × P p.0 p.1)
join_pair e Q d P a p c m q w = rw w.1 (cc (q.0, w.2.0), (q.1, w.2.1))

join_via : {A B : Type 0} (e : A → List ℕ) (Q : A → Type 0) (to : A → B) (from : B → A) → ((a : A) → from (to a) ≡ a)
    → (a : A) (l : List ℕ) → (e a ≡ l) × Q a → (e (from (to a)) ≡ l) × Q (from (to a))
join_via e Q to from back a l q = rw (back a) q

pub exact : {A : Type 0} (F : Format A) (s : List ℕ) → IsBytes s → Holds (Stands F) s (read F s)
unfolding read encode Valid
exact nothing s b = (refl, tt)
exact (number k) s b = holds_cond (Stands (number k)) s (leb k (length s)) (taken (big_endian k s) k) 1 0 (λ e. digits_read k s b (leb-true k (length s) e))
exact (bytes C) s b =
    holds_relocated (Stands (bytes C)) bytes_place s (and_then (read C s) contents s)
    (holds_then (Stands C) Padded (Stands (bytes C)) contents (join_bytes (encode C) (Valid C)) s
    (λ n k. exact_contents n (drop k s) (bytes_drop k s b)) (read C s) (exact C s b))
exact (array C F) s b =
    holds_then (Stands C) (Listed (encode F) (Valid F)) (Stands (array C F)) (λ n. many n (read F)) (join_array (encode C) (Valid C) (encode F) (Valid F)) s
    (λ n k. exact_many (encode F) (Valid F) (read F) (λ t d. exact F t d) n (drop k s) (bytes_drop k s b)) (read C s) (exact C s b)
exact (pair F G) s b =
    holds_then (Stands F) (Second G) (Stands (pair F G)) (λ a t. mapped (λ y. (a, y)) (read (G a) t))
    (join_pair (encode F) (Valid F) (λ a. encode (G a)) (λ a. Valid (G a))) s
    (λ a k. holds_mapped (Stands (G a)) (Second G a) (λ y. (a, y)) (λ y m q. (y, refl, q)) (drop k s) (read (G a) (drop k s))
    (exact (G a) (drop k s) (bytes_drop k s b)))
    (read F s) (exact F s b)
exact (checked_at k test fault F) s b = exact_tested F k test fault s (read F s) (exact F s b)
exact (via to from back forth F) s b =
    holds_mapped (Stands F) (Stands (via to from back forth F)) to (join_via (encode F) (Valid F) to from back) s (read F s) (exact F s b)
