-- Reading on: one field, and then the rest.
use Prim.Native.Nat.{ℕ, zero, suc, ◌+◌, ◌≤◌, ◌<◌}
use mathlib.Core.List.{List, [], ◌∷◌}
use mathlib.Core.Bool.{Bool, true, false, cond}
use mathlib.Core.Path.{◌≡◌, refl, sym, ap, ◌∙◌}
use native.Mathlib.Omega.{arith}
use native.Mathlib.Numerals.{add-one}
use native.Mathlib.Nat.{add-zero}
use borrow.Author.Tests.{eq-eqb, ne_eqb, eqb-false}
use lib.ListN.{length, drop, get_or, drop_of_length-le}
use lib.Seq.{drop-drop, drop-cons}
use lib.Dec.{leb, ltb, eqb}
use Rattle.xdr.specs.Reading.{taken, refused}
use Rattle.settings.specs.Field.{size_of, is_whole, contents_of, is_window, is_allowance, is_repository, is_note, wrong, fault}
use Rattle.settings.specs.Reading.{with_field, read_from}
use Rattle.settings.specs.declared.answer.Settings.{Settings}

-- the bytes of a field that was read are passed over at once
pub passed : (l : List ℕ) (skip least at : ℕ) (so : Settings) → skip ≤ length l → read_from l skip least at so ≡ read_from (drop skip l) 0 least (at + skip) so
unfolding read_from
passed l zero least at so h = ap (λ (k : ℕ). read_from l 0 least k so) (sym (add-zero at))
passed [] (suc skip) least at so h = absurd (omega arith)
passed (b ∷ l) (suc skip) least at so h =
    let same : suc at + skip ≡ at + suc skip = omega arith in
    passed l skip least (suc at) so (omega arith) ∙ ap (λ (k : ℕ). read_from (drop skip l) 0 least k so) same

-- a field at no fault, and one at fault, at the front
module _ (b : ℕ) (l : List ℕ) (least at : ℕ) (so : Settings) where
  pub front_good : fault least b l ≡ 0 → 2 + size_of l ≤ length l
      → read_from (b ∷ l) 0 least at so ≡ read_from (drop (2 + size_of l) l) 0 (suc b) (at + 3 + size_of l) (with_field so (at + 3) b (contents_of l))
  unfolding read_from
  front_good e h =
      let same : suc at + (2 + size_of l) ≡ at + 3 + size_of l = omega arith in
      simp (eq-eqb (fault least b l) 0 e)
      (passed l (2 + size_of l) (suc b) (suc at) (with_field so (at + 3) b (contents_of l)) h
      ∙ ap (λ (k : ℕ). read_from (drop (2 + size_of l) l) 0 (suc b) k (with_field so (at + 3) b (contents_of l))) same)

  pub front_faulty : (fault least b l ≡ 0 → ⊥) → read_from (b ∷ l) 0 least at so ≡ refused (fault least b l) at
  unfolding read_from
  front_faulty e = simp (ne_eqb (fault least b l) 0 e)

-- and at a place
module _ (s : List ℕ) (least at : ℕ) (so : Settings) (h : at < length s) where
  pub next_good : fault least (get_or s at 0) (drop (at + 1) s) ≡ 0 → (n : ℕ) → n ≡ size_of (drop (at + 1) s) → 2 + n ≤ length (drop (at + 1) s)
      → (part : List ℕ) → part ≡ contents_of (drop (at + 1) s)
      → read_from (drop at s) 0 least at so ≡ read_from (drop (at + 3 + n) s) 0 (get_or s at 0 + 1) (at + 3 + n) (with_field so (at + 3) (get_or s at 0) part)
  next_good e n q k part p =
      let l : List ℕ = drop (at + 1) s in
      let split : drop at s ≡ get_or s at 0 ∷ l = drop-cons s at 0 h ∙ ap (λ (m : ℕ). get_or s at 0 ∷ drop m s) (sym (add-one at)) in
      let past : at + 1 + (2 + size_of l) ≡ at + 3 + n = omega (arith, q) in
      let rest : drop (2 + size_of l) l ≡ drop (at + 3 + n) s = drop-drop (2 + size_of l) (at + 1) s ∙ ap (λ (m : ℕ). drop m s) past in
      ap (λ (m : List ℕ). read_from m 0 least at so) split
      ∙ front_good (get_or s at 0) l least at so e (omega (arith, q))
      ∙ rw (rest, p, ← q, add-one (get_or s at 0)) refl

  pub next_faulty : (fault least (get_or s at 0) (drop (at + 1) s) ≡ 0 → ⊥) → read_from (drop at s) 0 least at so ≡ refused (fault least (get_or s at 0) (drop (at + 1) s)) at
  next_faulty e =
      let l : List ℕ = drop (at + 1) s in
      let split : drop at s ≡ get_or s at 0 ∷ l = drop-cons s at 0 h ∙ ap (λ (m : ℕ). get_or s at 0 ∷ drop m s) (sym (add-one at)) in
      ap (λ (m : List ℕ). read_from m 0 least at so) split ∙ front_faulty (get_or s at 0) l least at so e

pub at_end : (s : List ℕ) (least at : ℕ) (so : Settings) → length s ≤ at → read_from (drop at s) 0 least at so ≡ taken so at
unfolding read_from
at_end s least at so h = rw (drop_of_length-le s {i = at} h) refl

-- a refusal is 25 or 26, at the place of a tag
abbrev Range : ℕ → Type 0
Range n = (n ≡ 0 → ⊥) → (25 ≤ n) × (n ≤ 26)

of_cond : (b : Bool) (x y : ℕ) → Range x → Range y → Range (cond b x y)
of_cond true x y f g = f
of_cond false x y f g = g

good_range : (b : Bool) → Range (cond b 0 26)
good_range b = of_cond b 0 26 (λ z. absurd (z refl)) (λ z. (omega arith, omega arith))

wrong_range : (tag : ℕ) (l : List ℕ) → Range (wrong tag l)
unfolding wrong
wrong_range tag l =
    of_cond (eqb tag 1) _ _ (good_range (is_window l))
    (of_cond (eqb tag 2) _ _ (good_range (is_allowance l))
    (of_cond (eqb tag 3) _ _ (good_range (is_repository l))
    (of_cond (ltb tag 128) _ _ (λ z. (omega arith, omega arith))
    (of_cond (eqb tag 128) _ _ (good_range (is_note l)) (λ z. absurd (z refl))))))

fault_range : (least tag : ℕ) (l : List ℕ) → Range (fault least tag l)
unfolding fault
fault_range least tag l =
    of_cond (is_whole l) _ _ (of_cond (leb least tag) _ _ (wrong_range tag (contents_of l)) (λ z. (omega arith, omega arith))) (λ z. (omega arith, omega arith))

pub refused_at : (l : List ℕ) (skip least at : ℕ) (so : Settings) {k p : ℕ} → read_from l skip least at so ≡ refused k p → (25 ≤ k) × (k ≤ 26) × (p < at + length l)
unfolding read_from
refused_at [] skip least at so e = cc
refused_at (b ∷ l) (suc skip) least at so e = let i = refused_at l skip least (suc at) so e in (i.0, i.1, omega (arith, i.2))
refused_at (b ∷ l) zero least at so {k} {p} e =
    go (eqb (fault least b l) 0) refl e (λ f. let i = refused_at l (2 + size_of l) (suc b) (suc at) (with_field so (at + 3) b (contents_of l)) f in (i.0, i.1, omega (arith, i.2)))
  where
    go : (d : Bool) → eqb (fault least b l) 0 ≡ d → cond d (read_from l (2 + size_of l) (suc b) (suc at) (with_field so (at + 3) b (contents_of l))) (refused (fault least b l) at) ≡ refused k p
        → (read_from l (2 + size_of l) (suc b) (suc at) (with_field so (at + 3) b (contents_of l)) ≡ refused k p → (25 ≤ k) × (k ≤ 26) × (p < at + suc (length l)))
        → (25 ≤ k) × (k ≤ 26) × (p < at + suc (length l))
    go true q f i = i f
    go false q f i =
        let number : fault least b l ≡ k = cc in
        let place : at ≡ p = cc in
        let r = fault_range least b l (eqb-false (fault least b l) 0 q) in
        (omega (arith, r.0), omega (arith, r.1), omega arith)
