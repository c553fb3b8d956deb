-- A name whose bytes may each stand before the next leads down, if it begins with neither dot nor slash and ends with neither slash nor zero.
use Rattle.std.proofs.Common.{◌≡◌, ℕ, suc, ◌+◌, ◌-◌, ◌<◌, ◌≤◌, Bool, true, false, eqb, List, [], ◌∷◌, ◌++◌, length, get_or, drop, sym, refl, ap, ◌∙◌, subst, arith, length-drop, length-take, get_or-drop, get_or-take, eqb-true}
use native.Mathlib.Decide.{dec_le}
use borrow.Author.Tests.{eqb-false}
use Rattle.order.specs.Order.{part}
use Rattle.record.specs.Name.{is_path}
use Rattle.record.specs.Steps.{Before, Smooth}
use Rattle.record.proofs.PathSteps.{plain_part, path_from, from_slash, from_other}

-- a part that has begun, and not with a dot
abbrev Begun : List ℕ → Type 0
Begun p = (0 < length p) × (get_or p 0 0 ≡ 46 → ⊥)

begun_more : (p : List ℕ) (c : ℕ) → Begun p → Begun (p ++ (c ∷ []))
begun_more [] c h = absurd (omega (arith, h.0))
begun_more (b ∷ p) c h = (omega arith, h.1)

-- bytes after one, each of which may stand before the next, and the last at the end
abbrev On : ℕ → List ℕ → Type 0
On b [] = (b ≡ 0 → ⊥) × (b ≡ 47 → ⊥)
On b (c ∷ l) = Before b c × On c l

some_byte : (b : ℕ) (l : List ℕ) → On b l → b ≡ 0 → ⊥
some_byte b [] o = o.0
some_byte b (c ∷ l) o = o.0.some

-- they lead on from a part that has begun
on_down : (p : List ℕ) → Begun p → (b : ℕ) (l : List ℕ) → On b l → path_from p l ≡ true
on_down p h b [] o = rw (plain_part p h.0 h.1) refl
on_down p h b (c ∷ []) o = let q = begun_more p c h in from_other p c [] o.1.1 o.1.0 ∙ rw (plain_part (p ++ (c ∷ [])) q.0 q.1) refl
on_down p h b (c ∷ d ∷ l) o = go (eqb c 47) refl (λ e. on_down (d ∷ []) (omega arith, (o.1.0.plain e).0) d l o.1.1) (on_down (p ++ (c ∷ [])) (begun_more p c h) c (d ∷ l) o.1)
  where
    go : (t : Bool) → eqb c 47 ≡ t → (c ≡ 47 → path_from (d ∷ []) l ≡ true) → path_from (p ++ (c ∷ [])) (d ∷ l) ≡ true → path_from p (c ∷ d ∷ l) ≡ true
    go true e f g =
        let slash : c ≡ 47 = eqb-true c 47 e in
        from_slash p c (d ∷ l) slash ∙ rw (plain_part p h.0 h.1) (from_other [] d l (o.1.0.plain slash).1 (some_byte d l o.1.1) ∙ f slash)
    go false e f g = from_other p c (d ∷ l) (eqb-false c 47 e) o.1.0.some ∙ g

-- place by place

-- a byte and those after it
to_on : (b : ℕ) (l : List ℕ) → Smooth (b ∷ l) (length l) → (get_or (b ∷ l) (length l) 0 ≡ 0 → ⊥) → (get_or (b ∷ l) (length l) 0 ≡ 47 → ⊥) → On b l
to_on b [] f z e = (z, e)
to_on b (c ∷ l) f z e = (f 0 (omega arith), to_on c l (λ i h. shift i (f (suc i) (omega arith))) z e)
  where
    shift : (i : ℕ) → Before (get_or (c ∷ l) i 0) (get_or (b ∷ c ∷ l) (suc i + 1) 0) → Before (get_or (c ∷ l) i 0) (get_or (c ∷ l) (i + 1) 0)
    shift i = let next : suc i + 1 ≡ suc (i + 1) = omega arith in subst (λ (j : ℕ). Before (get_or (c ∷ l) i 0) (get_or (b ∷ c ∷ l) j 0)) next

pub smooth_path : (s : List ℕ) → 1 ≤ length s → (get_or s 0 0 ≡ 46 → ⊥) → (get_or s 0 0 ≡ 47 → ⊥) → (get_or s (length s - 1) 0 ≡ 0 → ⊥) → (get_or s (length s - 1) 0 ≡ 47 → ⊥) → Smooth s (length s - 1)
    → is_path s ≡ true
unfolding is_path
smooth_path [] h d n z e f = absurd (omega arith)
smooth_path (b ∷ l) h d n z e f =
    let last : length l ≡ suc (length l) - 1 = omega arith in
    let end : (k : ℕ) → (get_or (b ∷ l) (suc (length l) - 1) 0 ≡ k → ⊥) → get_or (b ∷ l) (length l) 0 ≡ k → ⊥ = λ k g x. g (ap (λ (j : ℕ). get_or (b ∷ l) j 0) (sym last) ∙ x) in
    let o = to_on b l (λ i k. f i (omega arith)) (end 0 z) (end 47 e) in
    from_other [] b l n (some_byte b l o) ∙ on_down (b ∷ []) (omega arith, d) b l o

-- one byte more, and runs that overlap

pub smooth_more : (s : List ℕ) (i : ℕ) → 1 ≤ i → Smooth s (i - 1) → Before (get_or s (i - 1) 0) (get_or s i 0) → Smooth s (i + 1 - 1)
smooth_more s i h f n k l = go (dec_le (i - 1) k)
  where
    go : Dec (i - 1 ≤ k) → Before (get_or s k 0) (get_or s (k + 1) 0)
    go (yes w) =
        let here : i - 1 ≡ k = omega arith in
        let next : i ≡ k + 1 = omega arith in
        subst (λ (j : ℕ). Before (get_or s j 0) (get_or s (k + 1) 0)) here (subst (λ (j : ℕ). Before (get_or s (i - 1) 0) (get_or s j 0)) next n)
    go (no w) = f k (omega arith)

pub smooth_none : (s : List ℕ) → Smooth s 0
smooth_none s i h = absurd (omega arith)

module _ (s : List ℕ) (from to : ℕ) (f : from ≤ to) (t : to ≤ length s) where
  in_part : (i : ℕ) → i < to - from → get_or (part s from to) i 0 ≡ get_or s (from + i) 0
  in_part i h = get_or-take (to - from) (drop from s) i 0 h ∙ get_or-drop from s i 0

  pub smooth_on : (n k : ℕ) → from ≤ n → k < to → Smooth s n → Smooth (part s from to) (length (part s from to) - 1) → Smooth s k
  smooth_on n k before enough g p i h = go (dec_le from i)
    where
      long : length (part s from to) ≡ to - from
      long = length-take (to - from) (drop from s) ∙ simp length-drop (omega arith)

      go : Dec (from ≤ i) → Before (get_or s i 0) (get_or s (i + 1) 0)
      go (yes w) =
          let first : from + (i - from) ≡ i = omega arith in
          let second : from + (i - from + 1) ≡ i + 1 = omega arith in
          let here = in_part (i - from) (omega arith) ∙ ap (λ (j : ℕ). get_or s j 0) first in
          let next = in_part (i - from + 1) (omega arith) ∙ ap (λ (j : ℕ). get_or s j 0) second in
          subst (λ (b : ℕ). Before b (get_or s (i + 1) 0)) here (subst (λ (c : ℕ). Before (get_or (part s from to) (i - from) 0) c) next (p (i - from) (omega (arith, long))))
      go (no w) = g i (omega arith)
