-- The name rule byte by byte.
use Prim.Native.Nat.{ℕ, suc, ◌+◌, ◌-◌, ◌≤◌}
use mathlib.Core.List.{List, [], ◌∷◌, ◌++◌, append_assoc, append-nil}
use mathlib.Core.Path.{◌≡◌, refl, sym, ap, subst, ◌∙◌}
use mathlib.Core.Bool.{Bool, true, false, cond, ◌&&◌, and-true, and-false}
use native.Mathlib.Omega.{arith}
use borrow.Author.Tests.{lt-leb, eq-eqb, ne_eqb, eqb-true, eqb-false}
use lib.ListN.{length, get_or}
use lib.Dec.{leb, eqb}
use Rattle.xdr.specs.Text.{followers, lowest, highest, is_within}
use Rattle.record.specs.Name.{parts_from, dot, dots, is_part, are_parts, is_path}
use Rattle.record.proofs.PathSteps.{leads_down, long_part, plain_part, empty_part, one_byte, two_bytes, path_from, from_slash, from_other}
use Rattle.feed.specs.Rest.{text_after, part_after, scan_after, scanned, fresh}
use Rattle.feed.specs.declared.state.Scan.{Scan}
use Rattle.feed.specs.declared.state.Rule.TheVariants as R

-- the part at hand after some bytes
parted : ℕ → List ℕ → ℕ
parted p [] = p
parted p (b ∷ l) = parted (part_after p b) l

-- a part that leads down, however it goes on
Down : List ℕ → Type 0
Down p = (q : List ℕ) → is_part (p ++ q) ≡ true

down_more : (p : List ℕ) (b : ℕ) → Down p → Down (p ++ (b ∷ []))
unfolding Down
down_more p b h q = ap is_part (append_assoc p (b ∷ []) q) ∙ h ((b ∷ []) ++ q)

down_part : (p : List ℕ) → Down p → is_part p ≡ true
unfolding Down
down_part p h = ap is_part (sym (append-nil p)) ∙ h []

down_plain : (b : ℕ) → (b ≡ 46 → ⊥) → Down ([] ++ (b ∷ []))
unfolding Down
down_plain b n q = plain_part (b ∷ q) (omega arith) n

down_dot : (b : ℕ) → (b ≡ 46 → ⊥) → Down (dot ++ (b ∷ []))
unfolding Down
down_dot b n q = leads_down (46 ∷ b ∷ q) (λ e. omega (arith, ap length e)) (λ e. omega (arith, ap length e)) (λ e. n (ap (λ (l : List ℕ). get_or l 1 0) e))

down_dots : (b : ℕ) → Down (dots ++ (b ∷ []))
unfolding Down
down_dots b q = long_part (46 ∷ 46 ∷ b ∷ q) (omega arith)

-- what a part's number says of its bytes
data Begun : ℕ → List ℕ → Type 0 where
  none : Begun 0 []
  one : Begun 1 dot
  two : Begun 2 dots
  down : {p : List ℕ} → Down p → Begun 3 p

-- a name that doesn't lead down never does
lost : (l : List ℕ) → parted 4 l ≡ 4
unfolding parted
lost [] = refl
lost (b ∷ l) = lost l

lost_is : (l : List ℕ) (x : Bool) → x ≡ false → x ≡ eqb (parted 4 l) 3
lost_is l x e = e ∙ sym (ap (λ (n : ℕ). eqb n 3) (lost l))

last_part : (p : List ℕ) (x : Bool) → is_part p ≡ x → path_from p [] ≡ x
last_part p x e = and-true (is_part p && true) ∙ and-true (is_part p) ∙ e

ended : {k : ℕ} {p : List ℕ} → Begun k p → path_from p [] ≡ eqb k 3
ended none = last_part [] false (empty_part [] refl)
ended one = last_part dot false (one_byte dot refl)
ended two = last_part dots false (two_bytes dots refl refl)
ended (down {p} h) = last_part p true (down_part p h)

-- a zero byte
zero_lost : (p : List ℕ) (b : ℕ) (l : List ℕ) → b ≡ 0 → path_from p (b ∷ l) ≡ false
zero_lost p b l e = rw (eq-eqb b 0 e) (and-false (are_parts (parts_from p (b ∷ l))))

-- the part's number after a byte of each kind
after_zero : (k b : ℕ) → k ≤ 3 → b ≡ 0 → part_after k b ≡ 4
after_zero k b h e = simp (lt-leb 4 k (omega arith), eq-eqb b 0 e)

after_slash : (k b : ℕ) → k ≤ 3 → b ≡ 47 → part_after k b ≡ cond (eqb k 3) 0 4
after_slash k b h e = simp (lt-leb 4 k (omega arith), ne_eqb b 0 (λ z. omega arith), eq-eqb b 47 e)

after_dot : (k b : ℕ) → k ≤ 3 → b ≡ 46 → part_after k b ≡ cond (leb k 1) (k + 1) 3
after_dot k b h e = simp (lt-leb 4 k (omega arith), ne_eqb b 0 (λ z. omega arith), ne_eqb b 47 (λ z. omega arith), eq-eqb b 46 e)

after_plain : (k b : ℕ) → k ≤ 3 → (b ≡ 0 → ⊥) → (b ≡ 47 → ⊥) → (b ≡ 46 → ⊥) → part_after k b ≡ 3
after_plain k b h z s d = simp (lt-leb 4 k (omega arith), ne_eqb b 0 z, ne_eqb b 47 s, ne_eqb b 46 d)

small : {k : ℕ} {p : List ℕ} → Begun k p → k ≤ 3
small none = omega arith
small one = omega arith
small two = omega arith
small (down h) = omega arith

dotted : {k : ℕ} {p : List ℕ} (b : ℕ) → b ≡ 46 → Begun k p → Begun (cond (leb k 1) (k + 1) 3) (p ++ (b ∷ []))
dotted b e none = subst (λ (x : ℕ). Begun 1 (x ∷ [])) (sym e) one
dotted b e one = subst (λ (x : ℕ). Begun 2 (46 ∷ x ∷ [])) (sym e) two
dotted b e two = down (down_dots b)
dotted b e (down {p} h) = down (down_more p b h)

plain : {k : ℕ} {p : List ℕ} (b : ℕ) → (b ≡ 46 → ⊥) → Begun k p → Begun 3 (p ++ (b ∷ []))
plain b n none = down (down_plain b n)
plain b n one = down (down_dot b n)
plain b n two = down (down_dots b)
plain b n (down {p} h) = down (down_more p b h)

-- a byte more, where the rest goes by its part's number
module _ (l : List ℕ) (on : (k : ℕ) (p : List ℕ) → Begun k p → path_from p l ≡ eqb (parted k l) 3) where
  slash_over : {k : ℕ} {p : List ℕ} → Begun k p → is_part p && path_from [] l ≡ eqb (parted (cond (eqb k 3) 0 4) l) 3
  slash_over none = ap (λ (x : Bool). x && path_from [] l) (empty_part [] refl) ∙ lost_is l false refl
  slash_over one = ap (λ (x : Bool). x && path_from [] l) (one_byte dot refl) ∙ lost_is l false refl
  slash_over two = ap (λ (x : Bool). x && path_from [] l) (two_bytes dots refl refl) ∙ lost_is l false refl
  slash_over (down {p} h) = ap (λ (x : Bool). x && path_from [] l) (down_part p h) ∙ on 0 [] none

  path_byte : (b : ℕ) {k : ℕ} {p : List ℕ} → Begun k p → (z s d : Bool) → eqb b 0 ≡ z → eqb b 47 ≡ s → eqb b 46 ≡ d
      → path_from p (b ∷ l) ≡ eqb (parted (part_after k b) l) 3
  path_byte b {k} {p} g true s d z e f =
      zero_lost p b l (eqb-true b 0 z) ∙ lost_is l false refl ∙ sym (ap (λ (x : ℕ). eqb (parted x l) 3) (after_zero k b (small g) (eqb-true b 0 z)))
  path_byte b {k} {p} g false true d z e f =
      from_slash p b l (eqb-true b 47 e) ∙ slash_over g ∙ sym (ap (λ (x : ℕ). eqb (parted x l) 3) (after_slash k b (small g) (eqb-true b 47 e)))
  path_byte b {k} {p} g false false true z e f =
      from_other p b l (eqb-false b 47 e) (eqb-false b 0 z) ∙ on (cond (leb k 1) (k + 1) 3) (p ++ (b ∷ [])) (dotted b (eqb-true b 46 f) g)
      ∙ sym (ap (λ (x : ℕ). eqb (parted x l) 3) (after_dot k b (small g) (eqb-true b 46 f)))
  path_byte b {k} {p} g false false false z e f =
      from_other p b l (eqb-false b 47 e) (eqb-false b 0 z) ∙ on 3 (p ++ (b ∷ [])) (plain b (eqb-false b 46 f) g)
      ∙ sym (ap (λ (x : ℕ). eqb (parted x l) 3) (after_plain k b (small g) (eqb-false b 0 z) (eqb-false b 47 e) (eqb-false b 46 f)))

-- a name is one that leads down exactly if its last part's number is 3
path_over : (l : List ℕ) (k : ℕ) (p : List ℕ) → Begun k p → path_from p l ≡ eqb (parted k l) 3
unfolding parted
path_over [] k p g = ended g
path_over (b ∷ l) k p g = path_byte l (λ j q. path_over l j q) b g (eqb b 0) (eqb b 47) (eqb b 46) refl refl refl

-- what the name rule made of the bytes
part_of : (q : Scan) (i b part : ℕ) → (text_after q i b part).part ≡ part
part_of q i b part = go (eqb q.left 0) (leb q.left 3) (is_within q.low q.high b)
  where
    next : Bool → Bool → Bool → Scan
    next whole few fits =
        cond whole (record { left = followers b; low = lowest b; high = highest b; start = i; part = part })
        (cond few
        (cond fits (record { left = q.left - 1; low = 128; high = 191; start = q.start; part = part })
        (record { left = 4; low = q.low; high = q.high; start = q.start; part = part }))
        (record { left = q.left; low = q.low; high = q.high; start = q.start; part = part }))

    go : (whole few fits : Bool) → (next whole few fits).part ≡ part
    go true few fits = refl
    go false true true = refl
    go false true false = refl
    go false false fits = refl

part_over : (l : List ℕ) (q : Scan) (i : ℕ) → (scanned R.Name q i l).part ≡ parted q.part l
unfolding parted
part_over [] q i = refl
part_over (b ∷ l) q i = part_over l (scan_after R.Name q i b) (suc i) ∙ ap (λ (x : ℕ). parted x l) (part_of q i b (part_after q.part b))

pub path_is : (l : List ℕ) → is_path l ≡ eqb (scanned R.Name fresh 0 l).part 3
unfolding is_path
path_is l = path_over l 0 [] none ∙ sym (ap (λ (x : ℕ). eqb x 3) (part_over l fresh 0))
