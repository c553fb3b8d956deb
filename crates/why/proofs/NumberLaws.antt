-- Reading a number digit by digit: what the loop keeps.
use Prim.Native.Nat.{ℕ, suc, ◌+◌, ◌-◌, ◌*◌, ◌≤◌, ◌<◌}
use mathlib.Core.List.{List, [], ◌∷◌}
use mathlib.Core.Path.{◌≡◌, refl, sym, ap, ◌∙◌}
use mathlib.Core.Bool.{true, false}
use native.Mathlib.Omega.{arith}
use native.Mathlib.Numerals.{add-one}
use borrow.Author.Tests.{le-leb, lt-leb, leb-true}
use lib.ListN.{length, get_or, drop, drop_of_length-le}
use lib.Seq.{drop-cons}
use lib.Dec.{leb}
use Rattle.record.proofs.RisingLaws.{both_true}
use Rattle.why.specs.Number.{is_digit, digits_from, number_of}
use Rattle.std.specs.Prelude.{Some, None}

-- the digits before place i say n
pub record Reading (s : List ℕ) (n i : ℕ) : Type 0 where
  pub same : number_of s ≡ digits_from n (drop i s)
  pub small : n ≤ 4294967295

pub none_there : (s : List ℕ) → length s ≡ 0 → None ≡ number_of s
none_there [] e = refl
none_there (c ∷ l) e = absurd (omega arith)

pub reading_starts : (s : List ℕ) → (length s ≡ 0 → ⊥) → Reading s 0 0
reading_starts [] h = absurd (h refl)
reading_starts (c ∷ l) h = record { same = refl; small = omega arith }

module _ {s : List ℕ} {n i : ℕ} (w : Reading s n i) where
  pub reading_ends : length s ≤ i → Some n ≡ number_of s
  reading_ends h = sym (w.same ∙ ap (digits_from n) (drop_of_length-le s {i = i} h))

  module _ (h : i < length s) {c : ℕ} (e : c ≡ get_or s i 0) where
    next : number_of s ≡ digits_from n (c ∷ drop (i + 1) s)
    next =
        w.same
        ∙ ap (digits_from n) (drop-cons s i 0 h)
        ∙ ap (λ (k : ℕ). digits_from n (k ∷ drop (suc i) s)) (sym e)
        ∙ ap (λ (k : ℕ). digits_from n (c ∷ drop k s)) (sym (add-one i))

    pub reading_stops : is_digit c ≡ false → None ≡ number_of s
    reading_stops d = sym (next ∙ rw d refl)

    module _ (d : is_digit c ≡ true) where
      pub reading_overflows : 4294967295 < n * 10 + (c - 48) → None ≡ number_of s
      reading_overflows l = sym (next ∙ rw (d, lt-leb (n * 10 + (c - 48)) 4294967295 l) refl)

      pub reading_goes : n * 10 + (c - 48) ≤ 4294967295 → Reading s (n * 10 + (c - 48)) (i + 1)
      reading_goes l = record { same = next ∙ rw (d, le-leb (n * 10 + (c - 48)) 4294967295 l) refl; small = l }

-- a digit is from 48 to 57
pub digit_range : (c : ℕ) → is_digit c ≡ true → (48 ≤ c) × (c ≤ 57)
digit_range c e = let w = both_true (leb 48 c) (leb c 57) e in (leb-true 48 c w.0, leb-true c 57 w.1)
