-- The text rule, byte by byte.
use Prim.Native.Nat.{ℕ, zero, suc, ◌+◌, ◌-◌, ◌≤◌, ◌<◌}
use mathlib.Core.List.{List, [], ◌∷◌}
use mathlib.Core.Path.{◌≡◌, refl, sym, ap, subst, ◌∙◌}
use mathlib.Core.Bool.{Bool, true, false, cond, ◌&&◌}
use native.Mathlib.Omega.{arith}
use native.Mathlib.Numerals.{add-one}
use native.Mathlib.Nat.{add-zero}
use borrow.Author.Tests.{le-leb, lt-leb}
use lib.ListN.{length, get_or, drop, drop_of_length-le, length-drop}
use lib.Bits.{bit_and}
use lib.Dec.{leb}
use lib.Seq.{drop-cons, drop-drop, get_or-drop}
use Rattle.xdr.specs.Number.{IsBytes}
use Rattle.xdr.specs.Text.{followers, lowest, highest, is_within, sound_from, sound_up_to}
use Rattle.xdr.specs.Steps.{little_endian, followed_by, sound_after, Whole, Advance}
use Rattle.xdr.proofs.NumberLaws.{bytes_drop}
use Rattle.xdr.proofs.TopBits.{four_top_bits}
use Rattle.xdr.proofs.LeadLaws.{lead_four, lowest_240, highest_else, Loose, loose_two, loose_three}

module _ (s : List ℕ) (start i : ℕ) where
  -- at a lead byte, which has n followers
  lead_next : (left n : ℕ) → i < length s → left ≡ 0 → n ≡ followers (get_or s i 0) → n ≤ 3 → sound_from (drop i s) left 128 191 start i ≡ sound_from (drop (i + 1) s) n (lowest (get_or s i 0)) (highest (get_or s i 0)) i (i + 1)
  lead_next left n h z e k = rw (z, e, drop-cons s i 0 h, add-one) (rw (le-leb (followers (get_or s i 0)) 3 (omega arith)) refl)

  pub lead_broken : (left n : ℕ) → i < length s → left ≡ 0 → n ≡ followers (get_or s i 0) → 3 < n → sound_from (drop i s) left 128 191 start i ≡ i
  lead_broken left n h z e k = rw (z, drop-cons s i 0 h) (rw (lt-leb (followers (get_or s i 0)) 3 (omega arith)) refl)

  -- at the end
  pub end_whole : (left : ℕ) → length s ≤ i → left ≡ 0 → sound_from (drop i s) left 128 191 start i ≡ i
  end_whole left h z = rw (z, drop_of_length-le s {i = i} h) refl

-- between sequences it does not matter where the last one began, nor what its followers were
pub start_free : (l : List ℕ) (low high a b at : ℕ) → sound_from l 0 low high a at ≡ sound_from l 0 128 191 b at
start_free [] low high a b at = refl
start_free (x ∷ l) low high a b at = refl

-- a byte that is a sequence of its own
ascii_next : (s : List ℕ) (i : ℕ) → i < length s → get_or s i 0 ≤ 127 → sound_after s i ≡ sound_after s (i + 1)
ascii_next s i h k =
    lead_next s i i 0 0 h refl (simp (le-leb (get_or s i 0) 127 k)) (omega arith) ∙ start_free (drop (i + 1) s) (lowest (get_or s i 0)) (highest (get_or s i 0)) i (i + 1) (i + 1)

pub ascii_one : (s : List ℕ) (i : ℕ) → i < length s → get_or s i 0 ≤ 127 → Whole s i 1
ascii_one s i h k = record { within = omega arith; on = ascii_next s i h k }

-- one run of whole sequences after another
pub in_a_row : (s : List ℕ) (i m n k : ℕ) → m + n ≡ k → Whole s i m → Whole s (i + m) n → Whole s i k
in_a_row s i m n k e p q =
    let sum : i + m + n ≡ i + k = omega arith in
    let end = q.within in
    record { within = omega (arith, sum, end); on = p.on ∙ q.on ∙ ap (sound_after s) sum }

-- four bytes that are, by the number that they make
pub ascii_four : (s : List ℕ) (i : ℕ) → IsBytes s → i + 4 ≤ length s → bit_and (little_endian (drop i s)) 2155905152 ≡ 0 → Whole s i 4
ascii_four s i b h e =
    let small = bytes_drop i s b in
    let plain = four_top_bits (get_or (drop i s) 3 0) (get_or (drop i s) 2 0) (get_or (drop i s) 1 0) (get_or (drop i s) 0 0) (small 3) (small 2) (small 1) (small 0) e in
    let at : (k : ℕ) → get_or (drop i s) k 0 ≤ 127 → get_or s (i + k) 0 ≤ 127 = λ k l. subst (λ (x : ℕ). x ≤ 127) (get_or-drop i s k 0) l in
    let two : i + 1 + 1 ≡ i + 2 = omega arith in
    let three : i + 2 + 1 ≡ i + 3 = omega arith in
    let four : i + 3 + 1 ≡ i + 4 = omega arith in
    record {
      within = h;
      on =
          ascii_next s i (omega arith) (subst (λ (n : ℕ). get_or s n 0 ≤ 127) (add-zero i) (at 0 plain.3))
          ∙ ascii_next s (i + 1) (omega arith) (at 1 plain.2) ∙ ap (sound_after s) two
          ∙ ascii_next s (i + 2) (omega arith) (at 2 plain.1) ∙ ap (sound_after s) three
          ∙ ascii_next s (i + 3) (omega arith) (at 3 plain.0) ∙ ap (sound_after s) four;
    }

-- the followers of a sequence, all at once
pub sequence : (n low high : ℕ) (l : List ℕ) (start at : ℕ) → sound_from l n low high start at ≡ cond (followed_by n low high l) (sound_from (drop n l) 0 128 191 start (at + n)) start
sequence zero low high l start at = start_free l low high start start at ∙ ap (sound_from l 0 128 191 start) (sym (add-zero at))
sequence (suc n) low high [] start at = refl
sequence (suc n) low high (b ∷ l) start at = go (is_within low high b) (sequence n 128 191 l start (suc at))
  where
    go : (f : Bool) → sound_from l n 128 191 start (suc at) ≡ cond (followed_by n 128 191 l) (sound_from (drop n l) 0 128 191 start (suc at + n)) start
        → cond f (sound_from l n 128 191 start (suc at)) start ≡ cond (f && followed_by n 128 191 l) (sound_from (drop n l) 0 128 191 start (at + suc n)) start
    go true e = e ∙ ap (λ (k : ℕ). cond (followed_by n 128 191 l) (sound_from (drop n l) 0 128 191 start k) start) (omega arith)
    go false e = refl

pub followed_within : (n low high : ℕ) (l : List ℕ) → followed_by n low high l ≡ true → n ≤ length l
followed_within zero low high l e = omega arith
followed_within (suc n) low high [] e = let z : ◌≡◌ {A = ℕ} 0 1 = cc in absurd (omega arith)
followed_within (suc n) low high (b ∷ l) e = go (is_within low high b) e (λ q. followed_within n 128 191 l q)
  where
    go : (f : Bool) → (f && followed_by n 128 191 l) ≡ true → (followed_by n 128 191 l ≡ true → n ≤ length l) → suc n ≤ suc (length l)
    go true q ih = omega (arith, ih q)
    go false q ih = let z : ◌≡◌ {A = ℕ} 0 1 = cc in absurd (omega arith)

module _ (s : List ℕ) (i n : ℕ) (h : i < length s) (e : n ≡ followers (get_or s i 0)) (k : n ≤ 3) {low high : ℕ} (p : low ≡ lowest (get_or s i 0)) (q : high ≡ highest (get_or s i 0)) where
  by_followers : {f : Bool} → followed_by n low high (drop (i + 1) s) ≡ f → sound_after s i ≡ cond f (sound_from (drop n (drop (i + 1) s)) 0 128 191 i (i + 1 + n)) i
  by_followers f =
      lead_next s i i 0 n h refl e k
      ∙ sequence n (lowest (get_or s i 0)) (highest (get_or s i 0)) (drop (i + 1) s) i (i + 1)
      ∙ ap (λ (b : Bool). cond b (sound_from (drop n (drop (i + 1) s)) 0 128 191 i (i + 1 + n)) i)
      (ap (λ (m : ℕ). followed_by n m (highest (get_or s i 0)) (drop (i + 1) s)) (sym p) ∙ ap (λ (m : ℕ). followed_by n low m (drop (i + 1) s)) (sym q) ∙ f)

  -- a sequence that is whole
  pub sequence_whole : followed_by n low high (drop (i + 1) s) ≡ true → Whole s i (1 + n)
  sequence_whole f =
      let past : i + 1 + n ≡ i + (1 + n) = omega arith in
      let there = followed_within n low high (drop (i + 1) s) f in
      let long = length-drop (i + 1) s in
      record {
        within = omega (arith, there, long, h);
        on =
            by_followers f
            ∙ ap (λ (l : List ℕ). sound_from l 0 128 191 i (i + 1 + n)) (drop-drop n (i + 1) s)
            ∙ start_free (drop (i + 1 + n) s) 128 191 i (i + 1 + n) (i + 1 + n)
            ∙ ap (sound_after s) past;
      }

  -- and one that is not
  pub sequence_cut : followed_by n low high (drop (i + 1) s) ≡ false → sound_after s i ≡ i
  sequence_cut f = by_followers f

-- followers, one by one

module _ (s : List ℕ) (at low high : ℕ) where
  pub followed_one : at < length s → followed_by 1 low high (drop at s) ≡ is_within low high (get_or s at 0)
  followed_one h = rw (drop-cons s at 0 h) (and_true (is_within low high (get_or s at 0)))
    where
      and_true : (b : Bool) → (b && true) ≡ b
      and_true true = refl
      and_true false = refl

  pub followed_none : length s ≤ at → followed_by 1 low high (drop at s) ≡ false
  followed_none h = rw (drop_of_length-le s {i = at} h) refl

  followed_first : (n : ℕ) → followed_by (suc n) low high (drop at s) ≡ (followed_by 1 low high (drop at s) && followed_by n 128 191 (drop (at + 1) s))
  followed_first n = go (drop at s) (drop-drop 1 at s)
    where
      go' : (f : Bool) (l m : List ℕ) → l ≡ m → (f && followed_by n 128 191 l) ≡ ((f && true) && followed_by n 128 191 m)
      go' true l m q = ap (followed_by n 128 191) q
      go' false l m q = refl

      go : (l : List ℕ) → drop 1 l ≡ drop (at + 1) s → followed_by (suc n) low high l ≡ (followed_by 1 low high l && followed_by n 128 191 (drop (at + 1) s))
      go [] e = refl
      go (b ∷ l) e = go' (is_within low high b) l (drop (at + 1) s) e

  -- where the first is missing, and where it is there

  pub first_missing : (n : ℕ) → (n ≡ 0 → ⊥) → followed_by 1 low high (drop at s) ≡ false → followed_by n low high (drop at s) ≡ false
  first_missing zero z e = absurd (z refl)
  first_missing (suc n) z e = followed_first n ∙ ap (λ (b : Bool). b && followed_by n 128 191 (drop (at + 1) s)) e

  pub first_there : (n : ℕ) → (n ≡ 0 → ⊥) → followed_by 1 low high (drop at s) ≡ true → followed_by n low high (drop at s) ≡ followed_by (n - 1) 128 191 (drop (at + 1) s)
  first_there zero z e = absurd (z refl)
  first_there (suc n) z e =
      let less : n ≡ suc n - 1 = omega arith in
      followed_first n ∙ ap (λ (b : Bool). b && followed_by n 128 191 (drop (at + 1) s)) e ∙ ap (λ (k : ℕ). followed_by k 128 191 (drop (at + 1) s)) less

-- a sequence whose followers may be any of 80 to BF

module _ (s : List ℕ) (i n : ℕ) (h : i < length s) (w : Loose (get_or s i 0) n) (k : n ≤ 3) where
  pub loose_whole : followed_by n 128 191 (drop (i + 1) s) ≡ true → Whole s i (1 + n)
  loose_whole f = sequence_whole s i n h (sym w.has) k (sym w.low) (sym w.high) f

  pub loose_cut : followed_by n 128 191 (drop (i + 1) s) ≡ false → sound_after s i ≡ i
  loose_cut f = sequence_cut s i n h (sym w.has) k (sym w.low) (sym w.high) f

-- of two bytes, and of three

pub pair_whole : (s : List ℕ) (i : ℕ) → i + 2 ≤ length s → is_within 194 223 (get_or s i 0) ≡ true → is_within 128 191 (get_or s (i + 1) 0) ≡ true → Whole s i 2
pair_whole s i h p q = loose_whole s i 1 (omega arith) (loose_two (get_or s i 0) p) (omega arith) (followed_one s (i + 1) 128 191 (omega arith) ∙ q)

two_followers : (s : List ℕ) (i : ℕ) → i + 2 ≤ length s → is_within 128 191 (get_or s i 0) ≡ true → is_within 128 191 (get_or s (i + 1) 0) ≡ true → followed_by 2 128 191 (drop i s) ≡ true
two_followers s i h p q = first_there s i 128 191 2 (λ z. omega arith) (followed_one s i 128 191 (omega arith) ∙ p) ∙ followed_one s (i + 1) 128 191 (omega arith) ∙ q

pub three_whole : (s : List ℕ) (i : ℕ) → i + 3 ≤ length s → is_within 225 236 (get_or s i 0) ≡ true → is_within 128 191 (get_or s (i + 1) 0) ≡ true → is_within 128 191 (get_or s (i + 2) 0) ≡ true
    → Whole s i 3
three_whole s i h p q r =
    let past : i + 2 ≡ i + 1 + 1 = omega arith in
    loose_whole s i 2 (omega arith) (loose_three (get_or s i 0) p) (omega arith) (two_followers s (i + 1) (omega arith) q (ap (λ (k : ℕ). is_within 128 191 (get_or s k 0)) (sym past) ∙ r))

-- and of four, after F0
pub four_whole : (s : List ℕ) (i : ℕ) → i + 4 ≤ length s → get_or s i 0 ≡ 240 → is_within 144 191 (get_or s (i + 1) 0) ≡ true → is_within 128 191 (get_or s (i + 2) 0) ≡ true
    → is_within 128 191 (get_or s (i + 3) 0) ≡ true → Whole s i 4
four_whole s i h e p q r =
    let two : i + 2 ≡ i + 1 + 1 = omega arith in
    let three : i + 3 ≡ i + 1 + 1 + 1 = omega arith in
    sequence_whole s i 3 (omega arith) (sym (lead_four (get_or s i 0) (omega arith) (omega arith))) (omega arith) (sym (lowest_240 (get_or s i 0) e)) (sym (highest_else (get_or s i 0) (λ z. omega arith) (λ z. omega arith)))
    (first_there s (i + 1) 144 191 3 (λ z. omega arith) (followed_one s (i + 1) 144 191 (omega arith) ∙ p)
    ∙ two_followers s (i + 1 + 1) (omega arith) (ap (λ (k : ℕ). is_within 128 191 (get_or s k 0)) (sym two) ∙ q) (ap (λ (k : ℕ). is_within 128 191 (get_or s k 0)) (sym three) ∙ r))

-- a test that failed promises nothing
pub no_promise : {s : List ℕ} {i n : ℕ} → ◌≡◌ {A = Bool} false true → Whole s i n
no_promise e = let z : ◌≡◌ {A = ℕ} 0 1 = cc in absurd (omega arith)

-- going on, and stopping

module _ (s : List ℕ) (i : ℕ) where
  pub goes_on : (n : ℕ) → (n ≡ 0 → ⊥) → Whole s i n → Advance s i n
  goes_on n z w = record { broken = λ e. absurd (z e); whole = λ e. w }

  pub stops : sound_after s i ≡ i → Advance s i 0
  stops e = record { broken = λ z. e; whole = λ z. absurd (z refl) }

-- the fault is within the bytes

from_within : (l : List ℕ) (left low high start at : ℕ) → start ≤ at → sound_from l left low high start at ≤ at + length l
from_within [] zero low high start at h = omega arith
from_within [] (suc left) low high start at h = omega arith
from_within (b ∷ l) zero low high start at h = go (leb (followers b) 3) (from_within l (followers b) (lowest b) (highest b) at (suc at) (omega arith))
  where
    go : (t : Bool) → sound_from l (followers b) (lowest b) (highest b) at (suc at) ≤ suc at + length l → cond t (sound_from l (followers b) (lowest b) (highest b) at (suc at)) at ≤ at + suc (length l)
    go true w = omega (arith, w)
    go false w = omega arith
from_within (b ∷ l) (suc left) low high start at h = go (is_within low high b) (from_within l left 128 191 start (suc at) (omega arith))
  where
    go : (t : Bool) → sound_from l left 128 191 start (suc at) ≤ suc at + length l → cond t (sound_from l left 128 191 start (suc at)) start ≤ at + suc (length l)
    go true w = omega (arith, w)
    go false w = omega arith

pub sound_within : (l : List ℕ) → sound_up_to l ≤ length l
unfolding sound_up_to
sound_within l = omega (arith, from_within l 0 128 191 0 0 (omega arith))
