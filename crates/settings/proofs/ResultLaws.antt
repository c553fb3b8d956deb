-- Reading what would be saved, and reading its settings and its carried fields apart.
use Prim.Native.Nat.{ℕ, zero, suc, ◌+◌, ◌≤◌, ◌<◌}
use mathlib.Core.List.{List, [], ◌∷◌, ◌++◌, append-nil}
use mathlib.Core.Path.{◌≡◌, refl, sym, ap, ◌∙◌}
use mathlib.Core.Bool.{Bool, true, false, cond}
use native.Mathlib.Omega.{arith}
use borrow.Author.Tests.{le-leb, lt-leb, leb-true, eqb-true, eqb-false}
use lib.ListN.{length}
use lib.Dec.{eqb, leb}
use Rattle.xdr.specs.Reading.{Reading, refused}
use Rattle.settings.specs.Field.{size_of, contents_of, is_whole, wrong, fault}
use Rattle.settings.specs.Reading.{none, with_field, read_from, reading}
use Rattle.settings.specs.Saving.{Setting, fields_of, tagged, read_on, read_back}
use Rattle.settings.specs.Promised.{BeginsAbove}
use Rattle.settings.specs.declared.answer.Settings.{Settings}
use Rattle.settings.proofs.FieldLaws.{no_fault, wrong_above}
use Rattle.settings.proofs.SettingLaws.{AllFate, all_right, one_faulty, all_fate, own_read, own_alone, least_of, so_of, least_own, ordered}

-- carried fields whose first tag is above 128 read the same whatever lower tags are in order
fault_same : (b : ℕ) (l : List ℕ) (less : ℕ) → 128 < b → less ≤ 129 → fault 129 b l ≡ fault less b l
unfolding fault
fault_same b l less h k = simp (le-leb 129 b (omega arith), le-leb less b (omega arith))

same_above : (l : List ℕ) (less at : ℕ) (so : Settings) → BeginsAbove l → less ≤ 129 → read_from l 0 129 at so ≡ read_from l 0 less at so
unfolding read_from
same_above [] less at so h k = refl
same_above (b ∷ l) less at so h k =
    ap (λ (n : ℕ). cond (eqb n 0) (read_from l (2 + size_of l) (suc b) (suc at) (with_field so (at + 3) b (contents_of l))) (refused n at)) (fault_same b l less h k)

-- one whose first tag is not above 128 is refused there
low_fault : (b : ℕ) (l : List ℕ) → b ≤ 128 → fault 129 b l ≡ 26
unfolding fault
low_fault b l h = simp (lt-leb 129 b (omega arith)) (go (is_whole l))
  where
    go : (d : Bool) → ◌≡◌ {A = ℕ} (cond d 26 26) 26
    go true = refl
    go false = refl

pub low_first : (b : ℕ) (l : List ℕ) (at : ℕ) (so : Settings) → b ≤ 128 → read_from (b ∷ l) 0 129 at so ≡ refused 26 at
unfolding read_from
low_first b l at so h = ap (λ (n : ℕ). cond (eqb n 0) (read_from l (2 + size_of l) (suc b) (suc at) (with_field so (at + 3) b (contents_of l))) (refused n at)) (low_fault b l h)

-- carried fields are refused with 26 alone
fault_26 : (least b : ℕ) (l : List ℕ) → 129 ≤ least → (fault least b l ≡ 0 → ⊥) → fault least b l ≡ 26
unfolding fault
fault_26 least b l h g = go (is_whole l) (leb least b) refl g
  where
    go : (x y : Bool) → leb least b ≡ y → (◌≡◌ {A = ℕ} (cond x (cond y (wrong b (contents_of l)) 26) 26) 0 → ⊥) → ◌≡◌ {A = ℕ} (cond x (cond y (wrong b (contents_of l)) 26) 26) 26
    go true true e k = absurd (k (sym (wrong_above b (contents_of l) (omega (arith, leb-true least b e)))))
    go true false e k = refl
    go false y e k = refl

carried_26 : (l : List ℕ) (skip least at : ℕ) (so : Settings) {k p : ℕ} → 129 ≤ least → read_from l skip least at so ≡ refused k p → k ≡ 26
unfolding read_from
carried_26 [] skip least at so h e = cc
carried_26 (b ∷ l) (suc skip) least at so h e = carried_26 l skip least (suc at) so h e
carried_26 (b ∷ l) zero least at so {k} {p} h e =
    go (eqb (fault least b l) 0) refl e (λ i f. carried_26 l (2 + size_of l) (suc b) (suc at) (with_field so (at + 3) b (contents_of l)) i f)
  where
    go : (d : Bool) → eqb (fault least b l) 0 ≡ d → cond d (read_from l (2 + size_of l) (suc b) (suc at) (with_field so (at + 3) b (contents_of l))) (refused (fault least b l) at) ≡ refused k p
        → (129 ≤ suc b → read_from l (2 + size_of l) (suc b) (suc at) (with_field so (at + 3) b (contents_of l)) ≡ refused k p → k ≡ 26) → k ≡ 26
    go true q f i =
        let g = no_fault least b l (eqb-true (fault least b l) 0 q) in
        i (omega (arith, g.1)) f
    go false q f i =
        let same : fault least b l ≡ k = cc in
        sym same ∙ fault_26 least b l h (eqb-false (fault least b l) 0 q)

module _ (w a r n : Setting) where
  abbrev settings : List ℕ
  settings = fields_of (tagged w a r n)

  own_fate : AllFate (tagged w a r n) 0 0 none
  own_fate = all_fate (tagged w a r n) 0 0 none (ordered w a r n)

  -- carried fields that begin above 128: reading apart is reading the result
  pub read_as_one : (l : List ℕ) → BeginsAbove l → read_back settings l ≡ reading (settings ++ l)
  unfolding read_back
  read_as_one l h = go own_fate
    where
      go : AllFate (tagged w a r n) 0 0 none → read_on (reading settings) l ≡ reading (settings ++ l)
      go (all_right o) =
          ap (λ (x : Reading Settings). read_on x l) (own_alone w a r n o)
          ∙ same_above l (least_of (tagged w a r n) 0) (length settings) (so_of (tagged w a r n) 0 none) h (least_own (tagged w a r n) 0 (ordered w a r n))
          ∙ sym (own_read w a r n o l)
      go (one_faulty p f) = ap (λ (x : Reading Settings). read_on x l) (ap reading (sym (append-nil settings)) ∙ f []) ∙ sym (f l)

  -- saving never gives 25
  pub only_26 : (l : List ℕ) {k p : ℕ} → read_back settings l ≡ refused k p → k ≡ 26
  unfolding read_back
  only_26 l {k} {p} e = go own_fate
    where
      go : AllFate (tagged w a r n) 0 0 none → k ≡ 26
      go (all_right o) = carried_26 l 0 129 (length settings) (so_of (tagged w a r n) 0 none) (omega arith) (ap (λ (x : Reading Settings). read_on x l) (sym (own_alone w a r n o)) ∙ e)
      go (one_faulty q f) =
          let there-refused : refused 26 q ≡ refused k p = ap (λ (x : Reading Settings). read_on x l) (sym (ap reading (sym (append-nil settings)) ∙ f [])) ∙ e in
          let same : ◌≡◌ {A = ℕ} 26 k = cc in
          sym same
