-- What reading the encoding of a value gives, whether the value is valid or not and whatever follows: the value alone decides.
use Prim.Native.Nat.{ℕ, zero, suc, ◌+◌, ◌%◌, ◌-◌, ◌^◌, ◌<◌, min}
use mathlib.Core.List.{List, [], ◌∷◌, ◌++◌, append_assoc, append-nil}
use mathlib.Core.Path.{◌≡◌, refl, sym, ap, ◌∙◌}
use mathlib.Core.Bool.{Bool, true, false, cond}
use native.Mathlib.Omega.{arith}
use native.Mathlib.Nat.{div-add-mod', mod-lt}
use borrow.Author.Tests.{le-leb}
use lib.ListN.{length, drop, replicate, length-append, length-replicate}
use lib.Seq.{drop-append_seam, drop_at}
use Rattle.xdr.specs.Reading.{Reading, taken, refused, shifted, mapped, relocated, tested, and_then, many}
use Rattle.xdr.specs.Number.{digits}
use Rattle.xdr.specs.Pad.{padded}
use Rattle.xdr.specs.Format.{Format, nothing, number, bytes, array, pair, checked_at, checked, via, contents, bytes_place, read, read_at, encode_all, encode}
use Rattle.xdr.specs.Fields.{word}
use Rattle.xdr.proofs.Within.{place_start}
use Rattle.xdr.proofs.NumberLaws.{length_digits, read_digits, power_positive}
use Rattle.xdr.proofs.RoundTrip.{round_contents}
use Rattle.xdr.proofs.Steps.{Reads, part_read_lem, shifted_zero}

-- one reading after another
abbrev pub after : {A B : Type 0} → Reading A → Reading B → Reading B
after (taken a n) r = shifted n r
after (refused k p) r = refused k p

abbrev pub after_all : {A : Type 0} → (A → Reading A) → List A → Reading (List A)
after_all w [] = taken [] 0
after_all w (a ∷ l) = after (w a) (mapped (λ m. a ∷ m) (after_all w l))

-- what reading the bytes of a value gives, by the format
unfoldable pub read_back : {A : Type 0} → Format A → A → Reading A
read_back nothing u = taken u 0
read_back (number k) n = taken n k
read_back (bytes C) l = relocated bytes_place (after (read_back C (length l)) (taken l (padded (length l))))
read_back (array C F) l = after (read_back C (length l)) (after_all (λ a. read_back F a) l)
read_back (pair F G) p = after (read_back F p.0) (mapped (λ b. (p.0, b)) (read_back (G p.0) p.1))
read_back (checked_at k test fault F) a = tested k test fault (read_back F a)
read_back (via to from _ _ F) b = mapped to (read_back F (from b))

-- a format whose numbers have at least one byte
unfoldable pub Wide : {A : Type 0} → Format A → Type 0
Wide nothing = Unit {0}
Wide (number k) = 0 < k
Wide (bytes C) = Wide C
Wide (array C F) = Wide C × Wide F
Wide (pair {A = A} F G) = Wide F × ((a : A) → Wide (G a))
Wide (checked_at k test fault F) = Wide F
Wide (via to from _ _ F) = Wide F

-- a reading of a that takes n bytes, or is refused
pub data TakenOrRefused {A : Type 0} (a : A) (n : ℕ) : Reading A → Type 0 where
  whole : TakenOrRefused a n (taken a n)
  fault : (k p : ℕ) → TakenOrRefused a n (refused k p)

-- what is read of a value's bytes, whatever follows
pub record Rereads {A : Type 0} (p : List ℕ → Reading A) (a : A) (l : List ℕ) (w : Reading A) : Type 0 where
  pub either : TakenOrRefused a (length l) w
  pub reads : (t : List ℕ) → p (l ++ t) ≡ w

told_then : {A B : Type 0} (p : List ℕ → Reading A) (f : A → List ℕ → Reading B) (a : A) (b : B) (l m : List ℕ) (w : Reading A) (v : Reading B)
    → TakenOrRefused a (length l) w → ((t : List ℕ) → p (l ++ t) ≡ w) → Rereads (f a) b m v → Rereads (λ s. and_then (p s) f s) b (l ++ m) (after w v)
told_then p f a b l m w v whole h k = record {
  either = both v k.either;
  reads = λ t. simp (append_assoc, h (m ++ t), drop-append_seam, k.reads t);
}
  where
    both : (r : Reading _) → TakenOrRefused b (length m) r → TakenOrRefused b (length (l ++ m)) (shifted (length l) r)
    both r whole = rw (length-append l m) whole
    both r (fault n q) = fault n (length l + q)
told_then p f a b l m w v (fault n q) h k = record { either = fault n q; reads = λ t. simp (append_assoc, h (m ++ t)) }

told_mapped : {A B : Type 0} (g : A → B) (p : List ℕ → Reading A) (a : A) (l : List ℕ) (w : Reading A) → Rereads p a l w → Rereads (λ s. mapped g (p s)) (g a) l (mapped g w)
told_mapped g p a l w h = record { either = go w h.either; reads = λ t. ap (mapped g) (h.reads t) }
  where
    go : (r : Reading _) → TakenOrRefused a (length l) r → TakenOrRefused (g a) (length l) (mapped g r)
    go r whole = whole
    go r (fault n q) = fault n q

told_relocated : {A : Type 0} (place : ℕ → ℕ → ℕ) (p : List ℕ → Reading A) (a : A) (l : List ℕ) (w : Reading A)
    → Rereads p a l w → Rereads (λ s. relocated place (p s)) a l (relocated place w)
told_relocated place p a l w h = record { either = go w h.either; reads = λ t. ap (relocated place) (h.reads t) }
  where
    go : (r : Reading _) → TakenOrRefused a (length l) r → TakenOrRefused a (length l) (relocated place r)
    go r whole = whole
    go r (fault n q) = fault n (place n q)

told_tested : {A : Type 0} (k : ℕ) (test : A → Bool) (at : A → ℕ) (p : List ℕ → Reading A) (a : A) (l : List ℕ) (w : Reading A)
    → Rereads p a l w → Rereads (λ s. tested k test at (p s)) a l (tested k test at w)
told_tested k test at p a l w h = record { either = go w h.either; reads = λ t. ap (tested k test at) (h.reads t) }
  where
    by_test : (b : Bool) → TakenOrRefused a (length l) (cond b (taken a (length l)) (refused k (min (at a) (length l))))
    by_test true = whole
    by_test false = fault k (min (at a) (length l))

    go : (r : Reading _) → TakenOrRefused a (length l) r → TakenOrRefused a (length l) (tested k test at r)
    go r whole = by_test (test a)
    go r (fault n q) = fault n q

told_via : {A B : Type 0} (to : A → B) (from : B → A) → ((b : B) → to (from b) ≡ b) → (p : List ℕ → Reading A) (b : B) (l : List ℕ) (w : Reading A)
    → Rereads p (from b) l w → Rereads (λ s. mapped to (p s)) b l (mapped to w)
told_via to from forth p b l w h = rw (forth b) at (told_mapped to p (from b) l w h)

told_many : {A : Type 0} (p : List ℕ → Reading A) (e : A → List ℕ) (w : A → Reading A) → ((a : A) → Rereads p a (e a) (w a))
    → (l : List A) → Rereads (many (length l) p) l (encode_all e l) (after_all w l)
told_many p e w h [] = record { either = whole; reads = λ t. refl }
told_many p e w h (a ∷ l) =
    told_then p (λ x u. mapped (λ y. x ∷ y) (many (length l) p u)) a (a ∷ l) (e a) (encode_all e l) (w a) (mapped (λ y. a ∷ y) (after_all w l))
    (h a).either (h a).reads
    (told_mapped (λ y. a ∷ y) (many (length l) p) l (encode_all e l) (after_all w l) (told_many p e w h l))

told_contents : (l : List ℕ) → Rereads (contents (length l)) l (l ++ replicate (padded (length l) - length l) 0) (taken l (padded (length l)))
told_contents l =
    let long : length (l ++ replicate (padded (length l) - length l) 0) ≡ padded (length l) = simp (length-append, length-replicate) (omega arith) in
    record { either = rw long whole; reads = λ t. round_contents l t ∙ ap (λ (n : ℕ). taken l n) long }

told_number : (k n : ℕ) → 0 < k → Rereads (read (number k)) n (digits k n) (taken n k)
unfolding read
told_number zero n h = absurd (omega arith)
told_number (suc k) n h = record {
  either = rw (length_digits (suc k) n) whole;
  reads = λ t. simp (
    length-append,
    length_digits (suc k) n,
    le-leb (suc k) (suc k + length t) (omega arith),
    read_digits k (n % 256 ^ k) t (mod-lt n (power_positive k)),
    div-add-mod' n (256 ^ k),
  );
}

-- every value of every format
pub told : {A : Type 0} (F : Format A) (a : A) → Wide F → Rereads (read F) a (encode F a) (read_back F a)
unfolding read encode read_back Wide
told nothing u w = record { either = whole; reads = λ t. refl }
told (number k) n w = told_number k n w
told (bytes C) l w =
    told_relocated bytes_place (λ s. and_then (read C s) contents s) l (encode C (length l) ++ (l ++ replicate (padded (length l) - length l) 0)) (after (read_back C (length l)) (taken l (padded (length l))))
    (told_then (read C) contents (length l) l (encode C (length l)) (l ++ replicate (padded (length l) - length l) 0) (read_back C (length l)) (taken l (padded (length l)))
    (told C (length l) w).either (told C (length l) w).reads (told_contents l))
told (array C F) l w =
    told_then (read C) (λ n. many n (read F)) (length l) l (encode C (length l)) (encode_all (encode F) l) (read_back C (length l)) (after_all (read_back F) l)
    (told C (length l) w.0).either (told C (length l) w.0).reads (told_many (read F) (encode F) (read_back F) (λ a. told F a w.1) l)
told (pair F G) p w =
    told_then (read F) (λ a u. mapped (λ b. (a, b)) (read (G a) u)) p.0 p (encode F p.0) (encode (G p.0) p.1) (read_back F p.0) (mapped (λ b. (p.0, b)) (read_back (G p.0) p.1))
    (told F p.0 w.0).either (told F p.0 w.0).reads
    (told_mapped (λ b. (p.0, b)) (read (G p.0)) p.1 (encode (G p.0) p.1) (read_back (G p.0) p.1) (told (G p.0) p.1 (w.1 p.0)))
told (checked_at k test at F) a w = told_tested k test at (read F) a (encode F a) (read_back F a) (told F a w)
told (via to from back forth F) b w = told_via to from forth (read F) b (encode F (from b)) (read_back F (from b)) (told F (from b) w)

-- a string or an opaque whose length is held to a test
pub bytes_told : (k : ℕ) (test : ℕ → Bool) (l t : List ℕ)
    → read (bytes (checked k test word)) (encode (bytes word) l ++ t) ≡ cond (test (length l)) (taken l (4 + padded (length l))) (refused k 0)
unfolding encode read_back Wide
bytes_told k test l t = (told (bytes (checked k test word)) l (omega arith)).reads t ∙ go (test (length l))
  where
    go : (b : Bool) → relocated bytes_place (after (cond b (taken (length l) 4) (refused k 0)) (taken l (padded (length l)))) ≡ cond b (taken l (4 + padded (length l))) (refused k 0)
    go true = refl
    go false = ap (refused k) (place_start k)

-- the same as steps of a reading

told_at_start : {A : Type 0} {F : Format A} {s : List ℕ} {r : Reading A} → read F s ≡ r → Reads F s 0 r
unfolding read_at
told_at_start {F = F} {s = s} e = record { is = shifted_zero (read F s) ∙ e }

pub number_alone : (k n : ℕ) → Reads (number (suc k)) (encode (number (suc k)) n) 0 (taken n (suc k))
unfolding encode read_back
number_alone k n =
    told_at_start (ap (read (number (suc k))) (sym (append-nil (encode (number (suc k)) n))) ∙ (told_number (suc k) n (omega arith)).reads [])

module _ {k : ℕ} {test : ℕ → Bool} (l : List ℕ) where
  bytes_alone : Reads (bytes (checked k test word)) (encode (bytes word) l) 0 (cond (test (length l)) (taken l (4 + padded (length l))) (refused k 0))
  bytes_alone = told_at_start (ap (read (bytes (checked k test word))) (sym (append-nil (encode (bytes word) l))) ∙ bytes_told k test l [])

  pub told_taken : test (length l) ≡ true → Reads (bytes (checked k test word)) (encode (bytes word) l) 0 (taken l (4 + padded (length l)))
  told_taken e = rw e at bytes_alone

  pub told_refused : test (length l) ≡ false → Reads (bytes (checked k test word)) (encode (bytes word) l) 0 (refused k 0)
  told_refused e = rw e at bytes_alone

  -- what was taken is what was encoded
  pub told_same : {m : List ℕ} {n : ℕ} → Reads (bytes (checked k test word)) (encode (bytes word) l) 0 (taken m n) → (m ≡ l) × (n ≡ 4 + padded (length l)) × (test (length l) ≡ true)
  told_same {m} {n} h = go (test (length l)) refl
    where
      go : (b : Bool) → test (length l) ≡ b → (m ≡ l) × (n ≡ 4 + padded (length l)) × (test (length l) ≡ true)
      go true e = let q = sym h.is ∙ (told_taken e).is in (cc, cc, e)
      go false e = let z : ◌≡◌ {A = ℕ} 0 1 = cc (sym h.is ∙ (told_refused e).is) in absurd (omega arith)

-- an encoding that stands at a place is read there as it is alone
pub encoded_at : {A : Type 0} {F : Format A} (a : A) {s : List ℕ} {at : ℕ} {r : Reading A} (p t : List ℕ) → Wide F → s ≡ p ++ (encode F a ++ t) → length p ≡ at
    → Reads F (encode F a) 0 r → Reads F s at (shifted at r)
unfolding read_at
encoded_at {F = F} a {s = s} {at = at} p t w e long h =
    let there : drop at s ≡ encode F a ++ t = ap (drop at) e ∙ drop_at p (encode F a ++ t) at long in
    let alike : read F (drop at s) ≡ read F (encode F a) =
    ap (read F) there ∙ (told F a w).reads t ∙ sym ((told F a w).reads []) ∙ ap (read F) (append-nil (encode F a)) in
    part_read_lem (record { is = ap (shifted 0) alike ∙ h.is })

-- a string that stands behind some bytes and was taken there is the one that was encoded
pub told_there : {k : ℕ} {test : ℕ → Bool} (l : List ℕ) {m : List ℕ} {at n : ℕ} (p t : List ℕ) → length p ≡ at
    → Reads (bytes (checked k test word)) (p ++ (encode (bytes word) l ++ t)) at (taken m n) → (m ≡ l) × (n ≡ at + (4 + padded (length l))) × (test (length l) ≡ true)
unfolding encode Wide
told_there {k} {test} l {m} {at} {n} p t e h = go (test (length l)) refl
  where
    go : (b : Bool) → test (length l) ≡ b → (m ≡ l) × (n ≡ at + (4 + padded (length l))) × (test (length l) ≡ true)
    go true q =
        let w = sym h.is ∙ (encoded_at {F = bytes (checked k test word)} l p t (omega arith) refl e (told_taken l q)).is in
        (cc, cc, q)
    go false q =
        let z : ◌≡◌ {A = ℕ} 0 1 = cc (sym h.is ∙ (encoded_at {F = bytes (checked k test word)} l p t (omega arith) refl e (told_refused l q)).is) in
        absurd (omega arith)
