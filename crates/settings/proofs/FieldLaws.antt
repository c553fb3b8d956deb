-- What is wrong with a field, and what it says: a law for each way through.
use Prim.Native.Nat.{ℕ, ◌+◌, ◌-◌, ◌*◌, ◌≤◌, ◌<◌}
use mathlib.Core.List.{List, [], ◌∷◌}
use mathlib.Core.Path.{◌≡◌, refl, sym, ap, subst, ◌∙◌}
use mathlib.Core.Bool.{Bool, true, false, cond, ◌&&◌}
use native.Mathlib.Omega.{arith}
use native.Mathlib.Nat.{add-zero}
use native.Mathlib.Decide.{dec_lt}
use borrow.Author.Tests.{le-leb, lt-leb, lt-ltb, le-ltb, ne_eqb, eqb-true, eqb-false, leb-true}
use lib.ListN.{length, take, drop, get_or}
use lib.Seq.{drop-drop, get_or-drop}
use lib.Dec.{leb, eqb}
use Rattle.std.specs.Prelude.{Some, None, Ok, Err}
use Rattle.std.specs.declared.option.Option.{Option}
use Rattle.xdr.specs.Reading.{taken}
use Rattle.xdr.specs.Number.{big_endian}
use Rattle.xdr.specs.Text.{is_within, is_text}
use Rattle.xdr.specs.Format.{read, read_at}
use Rattle.xdr.specs.Fields.{word}
use Rattle.xdr.specs.Answers.{word_answer}
use Rattle.xdr.specs.declared.answer.Refusal.{Refusal}
use Rattle.settings.specs.Field.{size_of, is_whole, contents_of, is_window, is_allowance, is_repository, is_note, wrong, fault}
use Rattle.settings.specs.Reading.{with_field}
use Rattle.settings.specs.Steps.{byte_of, unless_0}
use Rattle.settings.specs.declared.answer.Settings.{Settings}

-- numbers of two and four bytes
pub two_bytes : (s : List ℕ) (at : ℕ) → get_or s at 0 * 256 + get_or s (at + 1) 0 ≡ big_endian 2 (drop at s)
two_bytes s at = simp (drop-drop, get_or-drop, add-zero) (omega arith)

four_read : (l : List ℕ) → length l ≡ 4 → read_at word l 0 ≡ taken (big_endian 4 l) 4
unfolding read_at read
four_read l h = simp (le-leb 4 (length l) (omega arith))

pub four_taken : (l : List ℕ) (n m : ℕ) → Ok (n, m) ≡ word_answer (read_at word l 0) → length l ≡ 4 → n ≡ big_endian 4 l
four_taken l n m e h =
    let f = four_read l h in
    let same : (n, m) ≡ (big_endian 4 l, 4) = cc in
    ap (λ (p : ℕ × ℕ). p.0) same

pub four_refused : (l : List ℕ) (r : Refusal) → Err r ≡ word_answer (read_at word l 0) → length l ≡ 4 → ⊥
four_refused l r e h = let f = four_read l h in cc

pub no_byte : (l : List ℕ) → length l ≡ 0 → 0 ≡ big_endian 1 l
no_byte [] h = refl
no_byte (x ∷ l) h = absurd (omega arith)

-- the byte of a number, where one holds it
pub byte_held : (n : ℕ) → n ≤ 255 → n ∷ [] ≡ byte_of (Some n)
byte_held n h = simp (le-leb n 255 h)

pub byte_none : (n : ℕ) → 255 < n → 0 ∷ [] ≡ byte_of (Some n)
byte_none n h = simp (lt-leb n 255 h)

-- what is answered, by what is wrong
pub nothing_wrong : (n : ℕ) → unless_0 n ≡ None → n ≡ 0
nothing_wrong n e = go (eqb n 0) refl e
  where
    go : (b : Bool) → eqb n 0 ≡ b → cond b None (Some n) ≡ None → n ≡ 0
    go true q f = eqb-true n 0 q
    go false q f = cc

pub something_wrong : (n m : ℕ) → unless_0 n ≡ Some m → (n ≡ m) × (n ≡ 0 → ⊥)
something_wrong n m e = go (eqb n 0) refl e
  where
    go : (b : Bool) → eqb n 0 ≡ b → cond b None (Some n) ≡ Some m → (n ≡ m) × (n ≡ 0 → ⊥)
    go true q f = cc
    go false q f = (cc, eqb-false n 0 q)

-- what is answered of contents that are right, and of those that aren't
good_answer : (b : Bool) → cond b None (Some 26) ≡ unless_0 (cond b 0 26)
good_answer true = refl
good_answer false = refl

-- what is wrong with contents, by the tag
module _ (tag : ℕ) (l : List ℕ) (r : Option ℕ) where
  pub wrong_window : tag ≡ 1 → r ≡ cond (is_window l) None (Some 26) → r ≡ unless_0 (wrong tag l)
  unfolding wrong
  wrong_window h e = e ∙ rw h (good_answer (is_window l))

  pub wrong_allowance : tag ≡ 2 → r ≡ cond (is_allowance l) None (Some 26) → r ≡ unless_0 (wrong tag l)
  unfolding wrong
  wrong_allowance h e = e ∙ rw h (good_answer (is_allowance l))

  pub wrong_repository : tag ≡ 3 → r ≡ cond (is_repository l) None (Some 26) → r ≡ unless_0 (wrong tag l)
  unfolding wrong
  wrong_repository h e = e ∙ rw h (good_answer (is_repository l))

  pub wrong_note : tag ≡ 128 → r ≡ cond (is_note l) None (Some 26) → r ≡ unless_0 (wrong tag l)
  unfolding wrong
  wrong_note h e = e ∙ rw h (good_answer (is_note l))

module _ (tag : ℕ) (l : List ℕ) where
  pub wrong_unknown : (tag ≡ 1 → ⊥) → (tag ≡ 2 → ⊥) → (tag ≡ 3 → ⊥) → tag < 128 → 25 ≡ wrong tag l
  unfolding wrong
  wrong_unknown a b d h = simp (ne_eqb tag 1 a, ne_eqb tag 2 b, ne_eqb tag 3 d, lt-ltb tag 128 h)

  pub wrong_above : 128 < tag → 0 ≡ wrong tag l
  unfolding wrong
  wrong_above h =
      simp (ne_eqb tag 1 (λ e. omega arith), ne_eqb tag 2 (λ e. omega arith), ne_eqb tag 3 (λ e. omega arith), le-ltb tag 128 (omega arith), ne_eqb tag 128 (λ e. omega arith))

-- the tags of the settings, and those above them
pub data Own (tag : ℕ) : Type 0 where
  window : tag ≡ 1 → Own tag
  allowance : tag ≡ 2 → Own tag
  repository : tag ≡ 3 → Own tag
  note : tag ≡ 128 → Own tag

pub data Kind (tag : ℕ) : Type 0 where
  own : Own tag → Kind tag
  carried : 128 < tag → Kind tag

-- the tags of fields that are right
pub kind : (tag : ℕ) (l : List ℕ) → wrong tag l ≡ 0 → Kind tag
kind tag l e = one (eqb tag 1) refl
  where
    high : 128 ≤ tag → Dec (128 < tag) → Kind tag
    high h (yes k) = carried k
    high h (no k) = own (note (omega arith))

    four : (tag ≡ 1 → ⊥) → (tag ≡ 2 → ⊥) → (tag ≡ 3 → ⊥) → Dec (tag < 128) → Kind tag
    four x y z (yes h) = absurd (omega (arith, wrong_unknown tag l x y z h ∙ e))
    four x y z (no h) = high (omega arith) (dec_lt 128 tag)

    three : (tag ≡ 1 → ⊥) → (tag ≡ 2 → ⊥) → (d : Bool) → eqb tag 3 ≡ d → Kind tag
    three x y true q = own (repository (eqb-true tag 3 q))
    three x y false q = four x y (eqb-false tag 3 q) (dec_lt tag 128)

    two : (tag ≡ 1 → ⊥) → (d : Bool) → eqb tag 2 ≡ d → Kind tag
    two x true q = own (allowance (eqb-true tag 2 q))
    two x false q = three x (eqb-false tag 2 q) (eqb tag 3) refl

    one : (d : Bool) → eqb tag 1 ≡ d → Kind tag
    one true q = own (window (eqb-true tag 1 q))
    one false q = two (eqb-false tag 1 q) (eqb tag 2) refl

-- contents that are right, and those that aren't
good_is : (b : Bool) → ◌≡◌ {A = ℕ} (cond b 0 26) 0 → b ≡ true
good_is true e = refl
good_is false e = absurd (omega arith)

never_good : (b : Bool) → (◌≡◌ {A = ℕ} (cond b 0 26) 0 → ⊥) → ◌≡◌ {A = ℕ} (cond b 0 26) 26
never_good true g = absurd (g refl)
never_good false g = refl

and_first : (a b : Bool) → (a && b) ≡ true → a ≡ true
and_first true b e = refl
and_first false b e = e

module _ (tag : ℕ) (l : List ℕ) where
  pub window_long : tag ≡ 1 → wrong tag l ≡ 0 → length l ≡ 1
  unfolding wrong
  window_long h e = eqb-true (length l) 1 (and_first (eqb (length l) 1) (is_within 1 16 (big_endian 1 l)) (good_is (is_window l) (rw h at e)))

  pub allowance_long : tag ≡ 2 → wrong tag l ≡ 0 → length l ≡ 4
  unfolding wrong
  allowance_long h e = eqb-true (length l) 4 (and_first (eqb (length l) 4) (is_within 131072 524288 (big_endian 4 l)) (good_is (is_allowance l) (rw h at e)))

  repository_short : tag ≡ 3 → wrong tag l ≡ 0 → length l ≤ 64
  unfolding wrong
  repository_short h e = leb-true (length l) 64 (and_first (leb (length l) 64) (is_text l) (good_is (is_repository l) (rw h at e)))

  note_short : tag ≡ 128 → wrong tag l ≡ 0 → length l ≤ 255
  unfolding wrong
  note_short h e = leb-true (length l) 255 (good_is (is_note l) (rw h at e))

  pub short : tag ≤ 128 → wrong tag l ≡ 0 → length l ≤ 255
  short h e = go (kind tag l e)
    where
      go : Kind tag → length l ≤ 255
      go (own (window q)) = omega (arith, window_long q e)
      go (own (allowance q)) = omega (arith, allowance_long q e)
      go (own (repository q)) = omega (arith, repository_short q e)
      go (own (note q)) = note_short q e
      go (carried q) = absurd (omega arith)

  -- the settings are refused with 26 alone
  pub own_26 : Own tag → (wrong tag l ≡ 0 → ⊥) → wrong tag l ≡ 26
  unfolding wrong
  own_26 o = go o
    where
      by : (k : ℕ) → tag ≡ k → ((wrong k l ≡ 0 → ⊥) → wrong k l ≡ 26) → (wrong tag l ≡ 0 → ⊥) → wrong tag l ≡ 26
      by k h f = subst (λ (t : ℕ). (wrong t l ≡ 0 → ⊥) → wrong t l ≡ 26) (sym h) f

      go : Own tag → (wrong tag l ≡ 0 → ⊥) → wrong tag l ≡ 26
      go (window h) = by 1 h (never_good (is_window l))
      go (allowance h) = by 2 h (never_good (is_allowance l))
      go (repository h) = by 3 h (never_good (is_repository l))
      go (note h) = by 128 h (never_good (is_note l))

module _ (least tag : ℕ) (l : List ℕ) where
  pub fault_cut : length l < 2 + size_of l → 26 ≡ fault least tag l
  unfolding fault
  fault_cut h = simp (lt-leb (2 + size_of l) (length l) h)

  pub fault_order : 2 + size_of l ≤ length l → tag < least → 26 ≡ fault least tag l
  unfolding fault
  fault_order h k = simp (le-leb (2 + size_of l) (length l) h, lt-leb least tag k)

  pub fault_contents : 2 + size_of l ≤ length l → least ≤ tag → wrong tag (contents_of l) ≡ fault least tag l
  unfolding fault
  fault_contents h k = simp (le-leb (2 + size_of l) (length l) h, le-leb least tag k)

  -- a field at no fault
  pub no_fault : fault least tag l ≡ 0 → (2 + size_of l ≤ length l) × (least ≤ tag) × (wrong tag (contents_of l) ≡ 0)
  unfolding fault
  no_fault e = go (is_whole l) refl (leb least tag) refl e
    where
      go : (b : Bool) → is_whole l ≡ b → (d : Bool) → leb least tag ≡ d → ◌≡◌ {A = ℕ} (cond b (cond d (wrong tag (contents_of l)) 26) 26) 0
          → (2 + size_of l ≤ length l) × (least ≤ tag) × (wrong tag (contents_of l) ≡ 0)
      go true p true q f = (leb-true (2 + size_of l) (length l) p, leb-true least tag q, f)
      go true p false q f = absurd (omega arith)
      go false p d q f = absurd (omega arith)

-- the contents of the field at a place, as a part of all bytes
pub contents_part : (s : List ℕ) (at n : ℕ) → n ≡ size_of (drop (at + 1) s) → take (at + 3 + n - (at + 3)) (drop (at + 3) s) ≡ contents_of (drop (at + 1) s)
contents_part s at n e =
    let past : at + 1 + 2 ≡ at + 3 = omega arith in
    let size : at + 3 + n - (at + 3) ≡ size_of (drop (at + 1) s) = omega arith in
    rw size (ap (take (size_of (drop (at + 1) s))) (sym (drop-drop 2 (at + 1) s ∙ ap (λ (k : ℕ). drop k s) past)))

-- the settings with a field of each kind
module _ (so : Settings) (start : ℕ) (tag : ℕ) (l : List ℕ) {end : ℕ} (e : end ≡ start + length l) where
  pub with_window : {n : ℕ} → tag ≡ 1 → n ≡ big_endian 1 l
      → record { window = Some n; allowance = so.allowance; repository = so.repository; note = so.note; carried = end } ≡ with_field so start tag l
  unfolding with_field
  with_window h k = rw (h, k, e) refl

  pub with_allowance : {n : ℕ} → tag ≡ 2 → n ≡ big_endian 4 l
      → record { window = so.window; allowance = Some n; repository = so.repository; note = so.note; carried = end } ≡ with_field so start tag l
  unfolding with_field
  with_allowance h k = rw (h, k, e) refl

  pub with_repository_lem : tag ≡ 3
      → record { window = so.window; allowance = so.allowance; repository = Some (record { start = start; length = length l }); note = so.note; carried = end } ≡ with_field so start tag l
  unfolding with_field
  with_repository_lem h = rw (h, e) refl

  pub with_note : tag ≡ 128
      → record { window = so.window; allowance = so.allowance; repository = so.repository; note = Some (record { start = start; length = length l }); carried = end } ≡ with_field so start tag l
  unfolding with_field
  with_note h = rw (h, e) refl

-- behind a setting the carried fields begin
pub own_carried : (so : Settings) (start tag : ℕ) (l : List ℕ) → Own tag → (with_field so start tag l).carried ≡ start + length l
unfolding with_field
own_carried so start tag l (window h) = rw h refl
own_carried so start tag l (allowance h) = rw h refl
own_carried so start tag l (repository h) = rw h refl
own_carried so start tag l (note h) = rw h refl

pub with_carried : (so : Settings) (start tag : ℕ) (l : List ℕ) → (tag ≡ 1 → ⊥) → (tag ≡ 2 → ⊥) → (tag ≡ 3 → ⊥) → (tag ≡ 128 → ⊥) → so ≡ with_field so start tag l
unfolding with_field
with_carried so start tag l a b d h = simp (ne_eqb tag 1 a, ne_eqb tag 2 b, ne_eqb tag 3 d, ne_eqb tag 128 h)

pub with_above : (so : Settings) (start tag : ℕ) (l : List ℕ) → 128 < tag → so ≡ with_field so start tag l
with_above so start tag l h = with_carried so start tag l (λ e. omega arith) (λ e. omega arith) (λ e. omega arith) (λ e. omega arith)
