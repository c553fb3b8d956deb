-- Reading the encoding of a value, followed by anything, gives the value and the encoding's length.
use Prim.Native.Nat.{ℕ, ◌+◌, ◌-◌, ◌^◌, ◌≤◌, ◌<◌, min}
use mathlib.Core.List.{List, [], ◌∷◌, ◌++◌, append_assoc}
use mathlib.Core.Path.{◌≡◌, refl, ap, ◌∙◌}
use mathlib.Core.Bool.{Bool, cond}
use native.Mathlib.Omega.{arith}
use borrow.Author.Tests.{le-leb}
use lib.ListN.{length, replicate, length-append, length-replicate}
use lib.Seq.{drop-append_seam, take-append_seam, take_at}
use Rattle.xdr.specs.Reading.{Reading, taken, refused, mapped, relocated, tested, and_then, many}
use Rattle.xdr.specs.Number.{digits}
use Rattle.xdr.specs.Format.{Format, nothing, number, bytes, array, pair, checked_at, via, contents, bytes_place, read, encode_all, encode, AllOf, Valid}
use Rattle.xdr.specs.Pad.{padded}
use Rattle.xdr.proofs.NumberLaws.{length_digits, read_digits}
use Rattle.xdr.proofs.PadLaws.{zeros_zero}

-- p reads what e encodes, for every value that has Q
abbrev pub ReadsBack : {A : Type 0} → (List ℕ → Reading A) → (A → List ℕ) → (A → Type 0) → Type 0
ReadsBack {A} p e Q = (a : A) (t : List ℕ) → Q a → p (e a ++ t) ≡ taken a (length (e a))

-- a value's bytes, and then what is read after them
round_then : {A B : Type 0} (p : List ℕ → Reading A) (f : A → List ℕ → Reading B) (a : A) (b : B) (l m t : List ℕ)
    → p (l ++ (m ++ t)) ≡ taken a (length l) → f a (m ++ t) ≡ taken b (length m)
    → and_then (p ((l ++ m) ++ t)) f ((l ++ m) ++ t) ≡ taken b (length (l ++ m))
round_then p f a b l m t h k = simp (append_assoc, h, drop-append_seam, k, length-append)

round_many : {A : Type 0} (p : List ℕ → Reading A) (e : A → List ℕ) (Q : A → Type 0) → ReadsBack p e Q
    → (l : List A) (t : List ℕ) → AllOf Q l → many (length l) p (encode_all e l ++ t) ≡ taken l (length (encode_all e l))
round_many p e Q h [] t q = refl
round_many p e Q h (a ∷ l) t q =
    round_then p (λ x u. mapped (λ y. x ∷ y) (many (length l) p u)) a (a ∷ l) (e a) (encode_all e l) t
    (h a (encode_all e l ++ t) q.0) (ap (mapped (λ y. a ∷ y)) (round_many p e Q h l t q.1))

pub round_contents : (l t : List ℕ) → contents (length l) ((l ++ replicate (padded (length l) - length l) 0) ++ t) ≡ taken l (length (l ++ replicate (padded (length l) - length l) 0))
round_contents l t =
    let n : ℕ = length l in
    let room : padded n ≤ length l + (padded n - n + length t) = omega arith in
    let whole : length l + (padded n - n) ≡ padded n = omega arith in
    simp (
      append_assoc,
      length-append,
      length-replicate,
      le-leb (padded n) (length l + (padded n - n + length t)) room,
      drop-append_seam,
      take_at (replicate (padded n - n) 0) t (padded n - n) (length-replicate (padded n - n) 0),
      zeros_zero (padded n - n),
      take-append_seam,
      whole,
    )

round_number : (k n : ℕ) (t : List ℕ) → n < 256 ^ k → read (number k) (digits k n ++ t) ≡ taken n (length (digits k n))
unfolding read
round_number k n t h = simp (length-append, length_digits, le-leb k (k + length t) (omega arith), read_digits k n t h)

pub round : {A : Type 0} (F : Format A) (a : A) (t : List ℕ) → Valid F a → read F (encode F a ++ t) ≡ taken a (length (encode F a))
unfolding read encode Valid
round nothing u t q = refl
round (number k) n t q = round_number k n t q
round (bytes C) l t q =
    ap (relocated bytes_place) (round_then (read C) contents (length l) l (encode C (length l)) (l ++ replicate (padded (length l) - length l) 0) t
    (round C (length l) _ q.0) (round_contents l t))
round (array C F) l t q =
    round_then (read C) (λ n. many n (read F)) (length l) l (encode C (length l)) (encode_all (encode F) l) t
    (round C (length l) _ q.0) (round_many (read F) (encode F) (Valid F) (λ a u v. round F a u v) l t q.1)
round (pair F G) p t q =
    round_then (read F) (λ a u. mapped (λ b. (a, b)) (read (G a) u)) p.0 p (encode F p.0) (encode (G p.0) p.1) t
    (round F p.0 _ q.0) (ap (mapped (λ b. (p.0, b))) (round (G p.0) p.1 t q.1))
round (checked_at k test fault F) a t q =
    let n : ℕ = length (encode F a) in
    ap (tested k test fault) (round F a t q.0) ∙ ap (λ (c : Bool). cond c (taken a n) (refused k (min (fault a) n))) q.1
round (via to from back forth F) b t q = ap (mapped to) (round F (from b) t q) ∙ ap (λ x. taken x (length (encode F (from b)))) (forth b)
