-- The byte at the place of a refusal with 6 or 7 is at fault.
use Prim.Native.Nat.{ℕ, zero, suc, ◌+◌, ◌-◌, ◌≤◌, ◌<◌, min}
use mathlib.Core.List.{List, [], ◌∷◌, ◌++◌}
use mathlib.Core.Path.{◌≡◌, refl, sym, ap, subst, ◌∙◌}
use mathlib.Core.Logic.{◌⊎◌, inl, inr, ⊎_elim}
use mathlib.Core.Bool.{Bool, true, false, cond, true≢false}
use native.Mathlib.Omega.{arith}
use borrow.Author.Tests.{eq-eqb, ne_eqb, eqb-true, eqb-false, leb-true}
use lib.ListN.{length, get_or, take, drop, length-drop, take-append-drop}
use lib.Seq.{get_or-take, get_or-drop, length-take-le, take-take}
use lib.Dec.{leb, eqb}
use Rattle.xdr.specs.Reading.{Reading, taken, refused, shifted, relocated, tested, and_then}
use Rattle.xdr.specs.Number.{big_endian}
use Rattle.xdr.specs.Pad.{padded, zeros_up_to, all_zero}
use Rattle.xdr.specs.Text.{followers, lowest, highest, is_within, sound_from, sound_up_to, is_text}
use Rattle.xdr.specs.Format.{pad_of, contents, bytes_place, read}
use Rattle.xdr.specs.Fields.{opaque, text, text_fault}
use Rattle.xdr.specs.Utf8.{IsUtf8}
use Rattle.xdr.proofs.TextRule.{sound_within}
use Rattle.xdr.proofs.Utf8Laws.{text_is_utf8, utf8_is_text}
use Rattle.promises.specs.BadByte.{length_said, BadPad, BadText}

-- the first byte of some that isn't zero
record FirstBad (l : List ℕ) (z : ℕ) : Type 0 where
  inside : z < length l
  bad : get_or l z 0 ≡ 0 → ⊥
  before : (i : ℕ) → i < z → get_or l i 0 ≡ 0

first_bad_lem : (l : List ℕ) → (zeros_up_to l ≡ length l → ⊥) → FirstBad l (zeros_up_to l)
first_bad_lem [] n = absurd (n refl)
first_bad_lem (b ∷ l) n = go (eqb b 0) refl n (first_bad_lem l)
  where
    go : (t : Bool) → eqb b 0 ≡ t → (cond t (suc (zeros_up_to l)) 0 ≡ suc (length l) → ⊥) → ((zeros_up_to l ≡ length l → ⊥) → FirstBad l (zeros_up_to l)) → FirstBad (b ∷ l) (cond t (suc (zeros_up_to l)) 0)
    go true f m rest = let w = rest (λ e. m (ap suc e)) in record { inside = omega (arith, w.inside); bad = w.bad; before = earlier w }
      where
        earlier : FirstBad l (zeros_up_to l) → (i : ℕ) → i < suc (zeros_up_to l) → get_or (b ∷ l) i 0 ≡ 0
        earlier w zero h = eqb-true b 0 f
        earlier w (suc i) h = w.before i (omega arith)
    go false f m rest = record { inside = omega arith; bad = eqb-false b 0 f; before = λ i h. absurd (omega arith) }

-- a fault is no earlier than where the sequence at hand began
from_start : (l : List ℕ) (left low high start at : ℕ) → start ≤ at → start ≤ sound_from l left low high start at
from_start [] zero low high start at h = h
from_start [] (suc left) low high start at h = omega arith
from_start (b ∷ l) zero low high start at h = go (leb (followers b) 3) (from_start l (followers b) (lowest b) (highest b) at (suc at) (omega arith))
  where
    go : (t : Bool) → at ≤ sound_from l (followers b) (lowest b) (highest b) at (suc at) → start ≤ cond t (sound_from l (followers b) (lowest b) (highest b) at (suc at)) at
    go true w = omega (arith, w)
    go false w = h
from_start (b ∷ l) (suc left) low high start at h = go (is_within low high b) (from_start l left 128 191 start (suc at) (omega arith))
  where
    go : (t : Bool) → start ≤ sound_from l left 128 191 start (suc at) → start ≤ cond t (sound_from l left 128 191 start (suc at)) start
    go true w = w
    go false w = omega arith

-- between sequences it is no earlier than the place
between : (l : List ℕ) (low high start at : ℕ) → at ≤ sound_from l 0 low high start at
between [] low high start at = omega arith
between (b ∷ l) low high start at = go (leb (followers b) 3) (from_start l (followers b) (lowest b) (highest b) at (suc at) (omega arith))
  where
    go : (t : Bool) → at ≤ sound_from l (followers b) (lowest b) (highest b) at (suc at) → at ≤ cond t (sound_from l (followers b) (lowest b) (highest b) at (suc at)) at
    go true w = w
    go false w = omega arith

-- among followers it is the lead, or farther on than the next byte
among : (l : List ℕ) (left low high start at : ℕ) → (sound_from l (suc left) low high start at ≡ start) ⊎ (at < sound_from l (suc left) low high start at)
among [] left low high start at = inl refl
among (b ∷ l) left low high start at = go (is_within low high b) left (between l 128 191 start (suc at)) (λ k. among l k 128 191 start (suc at))
  where
    go : (t : Bool) (k : ℕ) → suc at ≤ sound_from l 0 128 191 start (suc at) → ((j : ℕ) → (sound_from l (suc j) 128 191 start (suc at) ≡ start) ⊎ (suc at < sound_from l (suc j) 128 191 start (suc at)))
        → (cond t (sound_from l k 128 191 start (suc at)) start ≡ start) ⊎ (at < cond t (sound_from l k 128 191 start (suc at)) start)
    go true zero z f = inr (omega (arith, z))
    go true (suc k) z f = ⊎_elim (λ e. inl e) (λ w. inr (omega (arith, w))) (f k)
    go false k z f = inl refl

-- a fault before the end of the first bytes is the same in them alone
in_prefix : (m t : List ℕ) (left low high start at : ℕ) → sound_from (m ++ t) left low high start at < at + length m → sound_from m left low high start at ≡ sound_from (m ++ t) left low high start at
in_prefix [] t zero low high start at h = let w = between t low high start at in absurd (omega arith)
in_prefix [] t (suc left) low high start at h = ⊎_elim (λ e. sym e) (λ w. absurd (omega (arith, w))) (among t left low high start at)
in_prefix (b ∷ m) t zero low high start at h = go (leb (followers b) 3) h (in_prefix m t (followers b) (lowest b) (highest b) at (suc at))
  where
    go : (c : Bool) → cond c (sound_from (m ++ t) (followers b) (lowest b) (highest b) at (suc at)) at < at + suc (length m)
        → (sound_from (m ++ t) (followers b) (lowest b) (highest b) at (suc at) < suc at + length m → sound_from m (followers b) (lowest b) (highest b) at (suc at) ≡ sound_from (m ++ t) (followers b) (lowest b) (highest b) at (suc at))
        → cond c (sound_from m (followers b) (lowest b) (highest b) at (suc at)) at ≡ cond c (sound_from (m ++ t) (followers b) (lowest b) (highest b) at (suc at)) at
    go true w f = f (omega arith)
    go false w f = refl
in_prefix (b ∷ m) t (suc left) low high start at h = go (is_within low high b) h (in_prefix m t left 128 191 start (suc at))
  where
    go : (c : Bool) → cond c (sound_from (m ++ t) left 128 191 start (suc at)) start < at + suc (length m)
        → (sound_from (m ++ t) left 128 191 start (suc at) < suc at + length m → sound_from m left 128 191 start (suc at) ≡ sound_from (m ++ t) left 128 191 start (suc at))
        → cond c (sound_from m left 128 191 start (suc at)) start ≡ cond c (sound_from (m ++ t) left 128 191 start (suc at)) start
    go true w f = f (omega arith)
    go false w f = refl

-- and bytes that a fault comes right after have none
up_to : (m t : List ℕ) (left low high start at : ℕ) → ((k : ℕ) → left ≡ suc k → start < at) → sound_from (m ++ t) left low high start at ≡ at + length m → sound_from m left low high start at ≡ at + length m
up_to [] t zero low high start at s h = omega arith
up_to [] t (suc left) low high start at s h = let b = s left refl in ⊎_elim (λ e. absurd (omega (arith, e))) (λ w. absurd (omega (arith, w))) (among t left low high start at)
up_to (b ∷ m) t zero low high start at s h = go (leb (followers b) 3) h (up_to m t (followers b) (lowest b) (highest b) at (suc at) (λ k e. omega arith))
  where
    go : (c : Bool) → cond c (sound_from (m ++ t) (followers b) (lowest b) (highest b) at (suc at)) at ≡ at + suc (length m)
        → (sound_from (m ++ t) (followers b) (lowest b) (highest b) at (suc at) ≡ suc at + length m → sound_from m (followers b) (lowest b) (highest b) at (suc at) ≡ suc at + length m)
        → cond c (sound_from m (followers b) (lowest b) (highest b) at (suc at)) at ≡ at + suc (length m)
    go true w f = let e = f (omega arith) in omega arith
    go false w f = absurd (omega arith)
up_to (b ∷ m) t (suc left) low high start at s h = let r = s left refl in go r (is_within low high b) h (up_to m t left 128 191 start (suc at) (λ k e. omega arith))
  where
    go : start < at → (c : Bool) → cond c (sound_from (m ++ t) left 128 191 start (suc at)) start ≡ at + suc (length m)
        → (sound_from (m ++ t) left 128 191 start (suc at) ≡ suc at + length m → sound_from m left 128 191 start (suc at) ≡ suc at + length m)
        → cond c (sound_from m left 128 191 start (suc at)) start ≡ at + suc (length m)
    go r true w f = let e = f (omega arith) in omega arith
    go r false w f = absurd (omega arith)

-- so of the bytes of a string those before the fault are text, and no more are

module _ (l : List ℕ) where
  cut : (k : ℕ) → k ≤ length l → length (take k l) ≡ k
  cut k h = length-take-le k l h

  text_before : sound_up_to l ≤ length l → is_text (take (sound_up_to l) l) ≡ true
  unfolding sound_up_to
  text_before h =
      let q : ℕ = sound_from l 0 128 191 0 0 in
      let same : sound_from (take q l ++ drop q l) 0 128 191 0 0 ≡ q = ap (λ (m : List ℕ). sound_from m 0 128 191 0 0) (take-append-drop q l) in
      let long = cut q h in
      eq-eqb (sound_from (take q l) 0 128 191 0 0) (length (take q l)) (up_to (take q l) (drop q l) 0 128 191 0 0 (λ k e. omega arith) (omega arith) ∙ omega arith)

  no_text : (k : ℕ) → sound_up_to l < k → k ≤ length l → is_text (take k l) ≡ false
  unfolding sound_up_to
  no_text k g h =
      let same : sound_from (take k l ++ drop k l) 0 128 191 0 0 ≡ sound_from l 0 128 191 0 0 = ap (λ (m : List ℕ). sound_from m 0 128 191 0 0) (take-append-drop k l) in
      let long = cut k h in
      let e = in_prefix (take k l) (drop k l) 0 128 191 0 0 (omega arith) in
      ne_eqb (sound_from (take k l) 0 128 191 0 0) (length (take k l)) (λ z. omega arith)

utf8_text : (l : List ℕ) → IsUtf8 l → is_text l ≡ true
utf8_text l u = ap is_text u.is ∙ utf8_is_text u.points u.are

-- reading an opaque: what it is refused with, or its contents
data Opaque (s : List ℕ) : Reading (List ℕ) → Type 0 where
  short : (k p : ℕ) → (k ≡ 6 → ⊥) → (k ≡ 7 → ⊥) → Opaque s (refused k p)
  unpadded : padded (length_said s) ≤ length (drop 4 s) → all_zero (pad_of (length_said s) (drop 4 s)) ≡ false → Opaque s (refused 6 (4 + (length_said s + zeros_up_to (pad_of (length_said s) (drop 4 s)))))
  whole : padded (length_said s) ≤ length (drop 4 s) → Opaque s (taken (take (length_said s) (drop 4 s)) (4 + padded (length_said s)))

opaque_is : (limit : ℕ) (s : List ℕ) → Opaque s (read (opaque limit) s)
unfolding read
opaque_is limit s = word_there (leb 4 (length s))
  where
    n : ℕ
    n = big_endian 4 s

    padding : (t : Bool) → all_zero (pad_of n (drop 4 s)) ≡ t → padded n ≤ length (drop 4 s)
        → Opaque s (relocated bytes_place (shifted 4 (cond t (taken (take n (drop 4 s)) (padded n)) (refused 6 (n + zeros_up_to (pad_of n (drop 4 s)))))))
    padding true e h = whole h
    padding false e h = unpadded h e

    room : (t : Bool) → leb (padded n) (length (drop 4 s)) ≡ t
        → Opaque s (relocated bytes_place (shifted 4 (cond t (cond (all_zero (pad_of n (drop 4 s))) (taken (take n (drop 4 s)) (padded n)) (refused 6 (n + zeros_up_to (pad_of n (drop 4 s))))) (refused 1 0))))
    room true e = padding (all_zero (pad_of n (drop 4 s))) refl (leb-true (padded n) (length (drop 4 s)) e)
    room false e = short 1 0 (λ z. omega arith) (λ z. omega arith)

    limited : (t : Bool) → Opaque s (relocated bytes_place (and_then (cond t (taken n 4) (refused 5 0)) contents s))
    limited true = room (leb (padded n) (length (drop 4 s))) refl
    limited false = short 5 0 (λ z. omega arith) (λ z. omega arith)

    word_there : (t : Bool) → Opaque s (relocated bytes_place (and_then (tested 5 (λ k. leb k limit) (λ k. 0) (cond t (taken n 4) (refused 1 0))) contents s))
    word_there true = limited (leb n limit)
    word_there false = short 1 0 (λ z. omega arith) (λ z. omega arith)

module _ (s : List ℕ) (p : ℕ) where
  abbrev n : ℕ
  n = length_said s

  abbrev pad : List ℕ
  pad = pad_of n (drop 4 s)

  in_pad : padded n ≤ length (drop 4 s) → (i : ℕ) → i < padded n - n → get_or pad i 0 ≡ get_or s (4 + (n + i)) 0
  in_pad h i k = get_or-take (padded n - n) (drop n (drop 4 s)) i 0 k ∙ get_or-drop n (drop 4 s) i 0 ∙ get_or-drop 4 s (n + i) 0

  pub bad_pad_byte : (limit : ℕ) → read (opaque limit) s ≡ refused 6 p → BadPad s p
  unfolding all_zero
  bad_pad_byte limit = go (read (opaque limit) s) (opaque_is limit s)
    where
      go : (r : Reading (List ℕ)) → Opaque s r → r ≡ refused 6 p → BadPad s p
      go _ (short k q a b) e = absurd (a cc)
      go _ (whole h) e = let z : ◌≡◌ {A = ℕ} 0 1 = cc in absurd (omega arith)
      go _ (unpadded h z) e =
          let place : 4 + (n + zeros_up_to pad) ≡ p = cc in
          let long : length pad ≡ padded n - n = length-take-le (padded n - n) (drop n (drop 4 s)) (simp length-drop (omega (arith, h, length-drop 4 s))) in
          let w = first_bad_lem pad (eqb-false (zeros_up_to pad) (length pad) z) in
          let there = in_pad h (zeros_up_to pad) (omega (arith, w.inside, long)) ∙ ap (λ (i : ℕ). get_or s i 0) place in
          record {
            behind = omega arith;
            inside = omega (arith, w.inside, long);
            bad = λ f. w.bad (there ∙ f);
            before = λ i g k.
                let j : 4 + (n + (i - (4 + n))) ≡ i = omega arith in
                sym (in_pad h (i - (4 + n)) (omega (arith, w.inside, long)) ∙ ap (λ (m : ℕ). get_or s m 0) j) ∙ w.before (i - (4 + n)) (omega arith);
          }

  abbrev contents_of_lem : List ℕ
  contents_of_lem = take n (drop 4 s)

  broken_text : padded n ≤ length (drop 4 s) → is_text contents_of_lem ≡ false → p ≡ min (4 + sound_up_to contents_of_lem) (4 + padded n) → BadText s p
  broken_text h f e =
      let long : length contents_of_lem ≡ n = length-take-le n (drop 4 s) (omega (arith, h)) in
      let within = sound_within contents_of_lem in
      let other = eqb-false (sound_up_to contents_of_lem) (length contents_of_lem) f in
      let place : p ≡ 4 + sound_up_to contents_of_lem = omega (arith, e, within, long) in
      let less : sound_up_to contents_of_lem < n = omega (arith, within, long, other) in
      let front : p - 4 ≡ sound_up_to contents_of_lem = omega arith in
      record {
        behind = omega arith;
        inside = omega arith;
        before =
            subst (λ (l : List ℕ). IsUtf8 l) (take-take (sound_up_to contents_of_lem) n (drop 4 s) (omega arith) ∙ ap (λ (k : ℕ). take k (drop 4 s)) (sym front))
            (text_is_utf8 (take (sound_up_to contents_of_lem) contents_of_lem) (text_before contents_of_lem within));
        broken = λ k g t u.
            true≢false
            (sym (utf8_text (take (k - 4) (drop 4 s)) u)
            ∙ ap is_text (sym (take-take (k - 4) n (drop 4 s) (omega arith)))
            ∙ no_text contents_of_lem (k - 4) (omega arith) (omega (arith, long)));
      }

  pub bad_text_byte : (limit : ℕ) → read (text limit) s ≡ refused 7 p → BadText s p
  unfolding read
  bad_text_byte limit = go (read (opaque limit) s) (opaque_is limit s)
    where
      tests : padded n ≤ length (drop 4 s) → (t : Bool) → is_text contents_of_lem ≡ t
          → cond t (taken contents_of_lem (4 + padded n)) (refused 7 (min (4 + sound_up_to contents_of_lem) (4 + padded n))) ≡ refused 7 p → BadText s p
      tests h true f e = let z : ◌≡◌ {A = ℕ} 0 1 = cc in absurd (omega arith)
      tests h false f e = broken_text h f cc

      go : (r : Reading (List ℕ)) → Opaque s r → tested 7 is_text text_fault r ≡ refused 7 p → BadText s p
      go _ (short k q a b) e = absurd (b cc)
      go _ (unpadded h z) e = let f : ◌≡◌ {A = ℕ} 6 7 = cc in absurd (omega arith)
      go _ (whole h) e = tests h (is_text contents_of_lem) refl e
