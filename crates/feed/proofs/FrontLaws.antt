-- The first bytes of a message.
use Rattle.std.specs.Prelude.{Some, None}
use Prim.Native.Nat.{ℕ, zero, suc, ◌+◌, ◌*◌, ◌^◌, ◌≤◌, ◌<◌}
use mathlib.Core.List.{List, [], ◌∷◌, ◌++◌}
use mathlib.Core.Path.{◌≡◌, refl, sym, ap, ◌∙◌}
use mathlib.Core.Bool.{Bool, true, false, cond}
use native.Mathlib.Omega.{arith}
use native.Mathlib.Nat.{pow-succ'}
use native.Mathlib.Numerals.{add-one}
use borrow.Author.Tests.{le-leb, lt-leb, eq-eqb, ne_eqb, eqb-true}
use lib.ListN.{length, get_or, drop, drop_of_length-le}
use lib.Seq.{drop-cons}
use lib.Dec.{leb, eqb}
use Rattle.xdr.specs.Number.{big_endian}
use Rattle.feed.specs.Front.{no_front, front_after, header_in, header_of, FrontFits, FrontOver, header_fields}
use Rattle.feed.specs.declared.state.Front.{Front}

-- four bytes stay as they are
front_full : (f : Front) (l : List ℕ) → f.have ≡ 4 → front_after f l ≡ f
front_full f [] e = refl
front_full f (b ∷ l) e = ap (λ (x : Bool). cond x f (front_after (record { have = f.have + 1; value = f.value * 256 + b }) l)) (eq-eqb f.have 4 e)

-- one run after another
pub front_append : (f : Front) (p l : List ℕ) → front_after f (p ++ l) ≡ front_after (front_after f p) l
front_append f [] l = refl
front_append f (b ∷ p) l = go (eqb f.have 4) refl (front_append (record { have = f.have + 1; value = f.value * 256 + b }) p l)
  where
    go : (x : Bool) → eqb f.have 4 ≡ x
        → front_after (record { have = f.have + 1; value = f.value * 256 + b }) (p ++ l) ≡ front_after (front_after (record { have = f.have + 1; value = f.value * 256 + b }) p) l
        → cond x f (front_after (record { have = f.have + 1; value = f.value * 256 + b }) (p ++ l))
        ≡ front_after (cond x f (front_after (record { have = f.have + 1; value = f.value * 256 + b }) p)) l
    go true e h = sym (front_full f l (eqb-true f.have 4 e))
    go false e h = h

-- four bytes are the header
pub front_first : (s : List ℕ) → 4 ≤ length s → front_after no_front s ≡ record { have = 4; value = big_endian 4 s }
front_first [] h = absurd (omega arith)
front_first (a ∷ []) h = absurd (omega arith)
front_first (a ∷ b ∷ []) h = absurd (omega arith)
front_first (a ∷ b ∷ c ∷ []) h = absurd (omega arith)
front_first (a ∷ b ∷ c ∷ d ∷ l) h =
    front_full (record { have = 4; value = (((0 * 256 + a) * 256 + b) * 256 + c) * 256 + d }) l refl
    ∙ ap (λ (v : ℕ). record { have = 4; value = v }) number
  where
    number : (((0 * 256 + a) * 256 + b) * 256 + c) * 256 + d ≡ big_endian 4 (a ∷ b ∷ c ∷ d ∷ l)
    number = omega arith

-- type and ID are those of the header that the bytes begin with
pub header_is : (s : List ℕ) → header_in (front_after no_front s) ≡ header_of s
unfolding header_in
header_is [] = refl
header_is (a ∷ []) = sym (short (length (a ∷ [])) (omega arith))
  where
    short : (n : ℕ) → n < 4 → cond (leb 4 n) (Some (header_fields (big_endian 4 (a ∷ [])))) None ≡ None
    short n h = simp (lt-leb 4 n h)
header_is (a ∷ b ∷ []) = sym (short (length (a ∷ b ∷ [])) (omega arith))
  where
    short : (n : ℕ) → n < 4 → cond (leb 4 n) (Some (header_fields (big_endian 4 (a ∷ b ∷ [])))) None ≡ None
    short n h = simp (lt-leb 4 n h)
header_is (a ∷ b ∷ c ∷ []) = sym (short (length (a ∷ b ∷ c ∷ [])) (omega arith))
  where
    short : (n : ℕ) → n < 4 → cond (leb 4 n) (Some (header_fields (big_endian 4 (a ∷ b ∷ c ∷ [])))) None ≡ None
    short n h = simp (lt-leb 4 n h)
header_is (a ∷ b ∷ c ∷ d ∷ l) =
    ap header_in (front_first (a ∷ b ∷ c ∷ d ∷ l) (omega arith))
    ∙ sym (ap (λ (x : Bool). cond x (Some (header_fields (big_endian 4 (a ∷ b ∷ c ∷ d ∷ l)))) None) (le-leb 4 (length (a ∷ b ∷ c ∷ d ∷ l)) (omega arith)))

-- the first bytes over the first j bytes of a run
pub record Fronting (f : Front) (run : List ℕ) (g : Front) (j : ℕ) : Type 0 where
  pub on : front_after f run ≡ front_after g (drop j run)
  pub fits : FrontFits g
  pub within : j ≤ length run

pub fronting_none : (f : Front) (run : List ℕ) → FrontFits f → Fronting f run f 0
fronting_none f run h = record { on = refl; fits = h; within = omega arith }

pub front_small : {f : Front} → FrontFits f → (f.have ≡ 4 → ⊥) → (f.have < 4) × (f.value < 16777216)
front_small {f} h n = (omega (arith, h.four, n), go f.have (omega (arith, h.four, n)) (h.number (omega (arith, h.four, n))))
  where
    go : (c : ℕ) → c ≤ 3 → f.value < 256 ^ c → f.value < 16777216
    go zero k l = omega arith
    go (suc zero) k l = omega arith
    go (suc (suc zero)) k l = omega arith
    go (suc (suc (suc zero))) k l = l
    go (suc (suc (suc (suc c)))) k l = absurd (omega arith)

pub fronting_more : {f : Front} {run : List ℕ} {g : Front} {j : ℕ} → Fronting f run g j → j < length run → (g.have ≡ 4 → ⊥) → get_or run j 0 < 256
    → (r : Front) → r.have ≡ g.have + 1 → r.value ≡ g.value * 256 + get_or run j 0 → Fronting f run r (j + 1)
fronting_more {f} {run} {g} {j} h b n k r e v = record {
  on =
      h.on
      ∙ ap (front_after g) (drop-cons run j 0 b)
      ∙ ap (λ (x : Bool). cond x g (front_after (record { have = g.have + 1; value = g.value * 256 + get_or run j 0 }) (drop (suc j) run))) (ne_eqb g.have 4 n)
      ∙ ap (λ (x : Front). front_after x (drop (suc j) run)) same
      ∙ ap (λ (x : ℕ). front_after r (drop x run)) (sym (add-one j));
  fits = record { four = omega (arith, h.fits.four, n, e); number = λ l. more l };
  within = omega arith;
}
  where
    same : record { have = g.have + 1; value = g.value * 256 + get_or run j 0 } ≡ r
    same = ap (λ (x : ℕ). record { have = x; value = g.value * 256 + get_or run j 0 }) (sym e) ∙ ap (λ (x : ℕ). record { have = r.have; value = x }) (sym v)

    up : (c w x : ℕ) → w < 256 ^ c → x < 256 → w * 256 + x < 256 ^ (c + 1)
    up c w x p q = rw (add-one c, pow-succ' 256 c) (omega arith)

    more : r.have ≤ 3 → r.value < 256 ^ r.have
    more l = rw (e, v) (up g.have g.value (get_or run j 0) (h.fits.number (omega (arith, e))) k)

pub fronting_full : {f : Front} {run : List ℕ} {g : Front} {j : ℕ} → Fronting f run g j → g.have ≡ 4 → FrontOver f run g
fronting_full {f} {run} {g} {j} h e = record { is = sym (h.on ∙ front_full g (drop j run) e); fits = h.fits }

pub fronting_all : {f : Front} {run : List ℕ} {g : Front} {j : ℕ} → Fronting f run g j → length run ≤ j → FrontOver f run g
fronting_all {f} {run} {g} {j} h b = record { is = sym (h.on ∙ ap (front_after g) (drop_of_length-le run {i = j} b)); fits = h.fits }

pub no_front_lem : FrontFits no_front
no_front_lem = record { four = omega arith; number = λ l. omega arith }
