-- What the code's tests say of the definitions.
use Prim.Native.Nat.{ℕ, zero, suc, ◌+◌, ◌-◌, ◌^◌, ◌≤◌, ◌<◌}
use mathlib.Core.Path.{◌≡◌, refl, sym, ap, subst, ◌∙◌}
use mathlib.Core.Bool.{Bool, true, false, cond}
use native.Mathlib.Omega.{arith}
use native.Mathlib.Decide.{dec_le}
use borrow.Author.Tests.{le-leb, lt-leb, eq-eqb, ne_eqb}
use lib.Dec.{leb, eqb}
use Rattle.message.specs.Header.{last_type, is_type}
use Rattle.message.specs.declared.edition.Edition.{Edition}
use Rattle.feed.specs.Rest.{rule_of, limit_of, options_goal, text_after, part_after, scan_after, passes, fills, leads}
use Rattle.feed.specs.declared.state.Rule.{Rule}
use Rattle.feed.specs.declared.state.Rule.TheVariants as R
use Rattle.feed.specs.declared.state.Scan.{Scan}
use Rattle.feed.specs.Sound.{Bounded, Fits, Sound}
use Rattle.feed.specs.Steps.Next.{files_goal, blocks_goal, wants, is_opaque, part_by}
use Rattle.feed.specs.declared.state.StringField.{StringField}
use Rattle.feed.specs.declared.state.Cursor.{Cursor}
use Rattle.feed.specs.declared.state.Goal.{Goal}
use Rattle.feed.specs.declared.state.Goal.TheVariants as G
use Rattle.feed.specs.declared.state.WordField.TheVariants as F
use Rattle.feed.specs.declared.state.StringField.TheVariants as L

pub files_some : (n : ℕ) → (n ≡ 0 → ⊥) → G.String (L.File (n - 1)) ≡ files_goal n
files_some zero h = absurd (h refl)
files_some (suc n) h = ap (λ (x : ℕ). G.String (L.File x)) (omega arith)

pub blocks_some : (m n : ℕ) → (m ≡ 0 → ⊥) → G.Word (F.Block (m - 1) n) ≡ blocks_goal m n
blocks_some zero n h = absurd (h refl)
blocks_some (suc m) n h = ap (λ (x : ℕ). G.Word (F.Block x n)) (omega arith)

pub options_some : (n : ℕ) → (n ≡ 0 → ⊥) → G.String (L.Key (n - 1)) ≡ options_goal n
options_some zero h = absurd (h refl)
options_some (suc n) h = ap (λ (x : ℕ). G.String (L.Key x)) (omega arith)

pub type_zero : (e : Edition) (t : ℕ) → t ≡ 0 → is_type e t ≡ false
type_zero e t h = simp (lt-leb 1 t (omega arith))

pub type_high : (e : Edition) (t : ℕ) → (t ≡ 0 → ⊥) → last_type e < t → is_type e t ≡ false
type_high e t n h = simp (le-leb 1 t (omega arith), lt-leb t (last_type e) h)

pub type_right : (e : Edition) (t : ℕ) → (t ≡ 0 → ⊥) → t ≤ last_type e → is_type e t ≡ true
type_right e t h k = simp (le-leb 1 t (omega arith), le-leb t (last_type e) k)

pub limit_most : (l : StringField) → limit_of l ≤ 131072
limit_most L.Index = omega arith
limit_most L.Request = omega arith
limit_most L.RequestName = omega arith
limit_most L.Data = omega arith
limit_most (L.File k) = omega arith
limit_most (L.Key k) = omega arith
limit_most (L.Value k) = omega arith

pub small_word : (c v : ℕ) → c ≤ 3 → v < 256 ^ c → v < 16777216
small_word zero v h k = omega arith
small_word (suc zero) v h k = omega arith
small_word (suc (suc zero)) v h k = omega arith
small_word (suc (suc (suc zero))) v h k = k
small_word (suc (suc (suc (suc c)))) v h k = absurd (omega arith)

-- what is left of a limit
pub room_left : (n p m : ℕ) → p ≤ n → leb m (n - p) ≡ leb (p + m) n
room_left n p m h = go (dec_le m (n - p))
  where
    go : Dec (m ≤ n - p) → leb m (n - p) ≡ leb (p + m) n
    go (yes y) = le-leb m (n - p) y ∙ sym (le-leb (p + m) n (omega arith))
    go (no x) = lt-leb m (n - p) (omega arith) ∙ sym (lt-leb (p + m) n (omega arith))

-- what a sound state is at its goal
pub fits_at : {st : Cursor} {g : Goal} → st.goal ≡ g → Sound st → Fits g st
fits_at {st} {g} e h = subst (λ (x : Goal). Fits x st) e h.fits

pub bounded_at : (st : Cursor) (g : Goal) → st.goal ≡ g → Sound st → Bounded g st.place
bounded_at st g e h = subst (λ (x : Goal). Bounded x st.place) e h.bounded

pub wants_at : (st : Cursor) (g : Goal) → st.goal ≡ g → wants g ≡ true → wants st.goal ≡ true
wants_at st g e h = ap wants e ∙ h

-- a part that doesn't lead down ends a name that does
pub part_open : (p : ℕ) → (p ≡ 3 → ⊥) → ◌≡◌ {A = ℕ} 4 (part_after p 47)
part_open p h = go (leb 4 p)
  where
    go : (b : Bool) → ◌≡◌ {A = ℕ} 4 (cond b 4 (cond (eqb p 3) 0 4))
    go true = refl
    go false = simp (ne_eqb p 3 h)

pub part_slash : (p b : ℕ) → b ≡ 47 → part_after p 47 ≡ part_after p b
part_slash p b e = ap (part_after p) (sym e)

pub part_dot : (p b : ℕ) → b ≡ 46 → part_after p 46 ≡ part_after p b
part_dot p b e = ap (part_after p) (sym e)

pub part_lost : (p b : ℕ) → 4 ≤ p → ◌≡◌ {A = ℕ} 4 (part_after p b)
part_lost p b h = simp (le-leb 4 p h)

pub part_zero : (p b : ℕ) → p < 4 → b ≡ 0 → ◌≡◌ {A = ℕ} 4 (part_after p b)
part_zero p b h e = simp (lt-leb 4 p h, eq-eqb b 0 e)

pub part_plain : (p b : ℕ) → p < 4 → (b ≡ 47 → ⊥) → (b ≡ 46 → ⊥) → (b ≡ 0 → ⊥) → ◌≡◌ {A = ℕ} 3 (part_after p b)
part_plain p b h s d z = simp (lt-leb 4 p h, ne_eqb b 0 z, ne_eqb b 47 s, ne_eqb b 46 d)

-- what a rule makes of a byte: nothing, or what the text rule does
pub scan_opaque : (r : Rule) (q : Scan) (i b : ℕ) → is_opaque r ≡ true → q ≡ scan_after r q i b
scan_opaque R.Opaque q i b e = refl
scan_opaque R.Text q i b e = let z : ◌≡◌ {A = ℕ} 0 1 = cc in absurd (omega arith)
scan_opaque R.Name q i b e = let z : ◌≡◌ {A = ℕ} 0 1 = cc in absurd (omega arith)

pub scan_other : (r : Rule) (q : Scan) (i b : ℕ) → is_opaque r ≡ false → text_after q i b (part_by r q.part b) ≡ scan_after r q i b
scan_other R.Opaque q i b e = let z : ◌≡◌ {A = ℕ} 0 1 = cc in absurd (omega arith)
scan_other R.Text q i b e = refl
scan_other R.Name q i b e = refl

-- what a rule says of a string, by the rule that the code looked up
module _ (l : StringField) {r : Rule} {x y : Bool} (e : r ≡ rule_of l) where
  pub rule_passes : (q : Scan) → x ≡ passes r q → x ≡ y → passes (rule_of l) q ≡ y
  rule_passes q f g = ap (λ (z : Rule). passes z q) (sym e) ∙ sym f ∙ g

  pub rule_fills : (n : ℕ) → x ≡ fills r n → x ≡ y → fills (rule_of l) n ≡ y
  rule_fills n f g = ap (λ (z : Rule). fills z n) (sym e) ∙ sym f ∙ g

  pub rule_leads : (q : Scan) → x ≡ leads r q → x ≡ y → leads (rule_of l) q ≡ y
  rule_leads q f g = ap (λ (z : Rule). leads z q) (sym e) ∙ sym f ∙ g
