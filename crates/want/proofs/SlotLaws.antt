-- The search for a block in an index: how it goes on, and what stays found when a block is put into a free slot.
use Prim.Native.Nat.{ℕ, zero, suc, ◌+◌, ◌-◌, ◌≤◌, ◌<◌}
use mathlib.Core.List.{List}
use mathlib.Core.Path.{◌≡◌, refl, sym, ap, subst, ◌∙◌}
use mathlib.Core.Logic.{◌⊎◌, inl, inr}
use mathlib.Core.Bool.{Bool, true, false, cond}
use native.Mathlib.Omega.{arith}
use native.Mathlib.Decide.{dec_lt}
use borrow.Author.Tests.{eq-eqb, ne_eqb, eqb-true, eqb-false}
use lib.ListN.{length, get_or, set, take, drop}
use lib.Seq.{get_or-set_same, get_or-set_other}
use lib.Dec.{eqb}
use Rattle.record.specs.Block.{Block}
use Rattle.want.specs.Listing.{is_same}
use Rattle.want.specs.Steps.Blocks.{block_here}
use Rattle.want.specs.Steps.Index.{key_of, next_slot, slot_from, slot_of, is_placed, placed, Within}
use Rattle.want.specs.declared.index.Slot.{Slot}
use Rattle.want.specs.declared.index.Slot.TheVariants.{Free, Present, Full}
use Rattle.want.proofs.BlockLaws.{key_below, next_below}

-- one slot of the search, by whether it is free and by whether its block is the same
abbrev step : (i : ℕ) → (free same : Bool) → (rest : Slot) → Slot
step i free same rest = cond free (Free i) (cond same Present rest)

module _ (t index : List ℕ) (i : ℕ) (b : Block) where
  turn : (left : ℕ) → slot_from t index i (suc left) b ≡ step i (eqb (get_or index i 0) 0) (is_same (block_here t (get_or index i 0)) b) (slot_from t index (next_slot i) left b)
  unfolding slot_from
  turn left = refl

  none : slot_from t index i 0 b ≡ Full
  unfolding slot_from
  none = refl

  module _ {left e : ℕ} (more : 0 < left) (is : e ≡ get_or index i 0) where
    again : slot_from t index i left b ≡ step i (eqb e 0) (is_same (block_here t e) b) (slot_from t index (next_slot i) (left - 1) b)
    again =
        let up : left ≡ suc (left - 1) = omega arith in
        ap (λ (n : ℕ). slot_from t index i n b) up ∙ turn (left - 1) ∙ ap (λ (x : ℕ). step i (eqb x 0) (is_same (block_here t x) b) (slot_from t index (next_slot i) (left - 1) b)) (sym is)

    pub at_free : e ≡ 0 → Free i ≡ slot_from t index i left b
    at_free z = sym (again ∙ rw (eq-eqb e 0 z) refl)

    pub at_same : (e ≡ 0 → ⊥) → {r : Bool} → r ≡ is_same (block_here t e) b → r ≡ true → Present ≡ slot_from t index i left b
    at_same z {r} k h = sym (again ∙ rw (ne_eqb e 0 z, sym k ∙ h) refl)

    at_other : (e ≡ 0 → ⊥) → {r : Bool} → r ≡ is_same (block_here t e) b → r ≡ false → slot_from t index i left b ≡ slot_from t index (next_slot i) (left - 1) b
    at_other z {r} k h = again ∙ rw (ne_eqb e 0 z, sym k ∙ h) refl

    -- and the search goes on
    pub goes_on : {x : Slot} {n : ℕ} → x ≡ slot_from t index i left b → (e ≡ 0 → ⊥) → {r : Bool} → r ≡ is_same (block_here t e) b → r ≡ false → n ≡ next_slot i → (n < 8192) × (x ≡ slot_from t index n (left - 1) b)
    goes_on {x} {n} w z k h f =
        (subst (λ (m : ℕ). m < 8192) (sym f) (next_below i), w ∙ at_other z k h ∙ ap (λ (m : ℕ). slot_from t index m (left - 1) b) (sym f))

  -- no slot is left to look at
  pub ends : {x : Slot} {left : ℕ} → x ≡ slot_from t index i left b → left ≤ 0 → Full ≡ x
  ends {x} {left} w h = let z : left ≡ 0 = omega arith in sym (w ∙ ap (λ (n : ℕ). slot_from t index i n b) z ∙ none)

-- the search begins at the key of the block's hash
pub starts : (t index s : List ℕ) (p : ℕ) {h : List ℕ} {k : ℕ} → h ≡ take 32 (drop (p + 8) s) → k ≡ key_of h
    → (k < 8192) × (slot_of t index (block_here s p) ≡ slot_from t index k 64 (block_here s p))
unfolding slot_of
starts t index s p {h} {k} d e =
    (subst (λ (n : ℕ). n < 8192) (sym e) (key_below h), ap (λ (n : ℕ). slot_from t index n 64 (block_here s p)) (sym (e ∙ ap key_of d)))

-- what isn't 0 is the place of a block
pub block_within : (t index : List ℕ) (i : ℕ) {e : ℕ} → Within t index → e ≡ get_or index i 0 → (e ≡ 0 → ⊥) → e + 40 ≤ length t
block_within t index i {e} w k z = go (dec_lt 0 e)
  where
    go : Dec (0 < e) → e + 40 ≤ length t
    go (yes h) = omega (arith, w i (omega arith))
    go (no h) = absurd (z (omega arith))

-- slots that aren't free stay as they are
abbrev pub Kept : (before after : List ℕ) → Type 0
Kept before after = (i : ℕ) → 0 < get_or before i 0 → get_or after i 0 ≡ get_or before i 0

-- by whether a slot is free, and by whether its block is the same
data Look (t index : List ℕ) (i : ℕ) (b : Block) : Type 0 where
  free : get_or index i 0 ≡ 0 → Look t index i b
  same : 0 < get_or index i 0 → is_same (block_here t (get_or index i 0)) b ≡ true → Look t index i b
  other : 0 < get_or index i 0 → is_same (block_here t (get_or index i 0)) b ≡ false → Look t index i b

look : (t index : List ℕ) (i : ℕ) (b : Block) → Look t index i b
look t index i b = go (dec_lt 0 (get_or index i 0)) (is_same (block_here t (get_or index i 0)) b) refl
  where
    go : Dec (0 < get_or index i 0) → (s : Bool) → is_same (block_here t (get_or index i 0)) b ≡ s → Look t index i b
    go (no h) s e = free (omega arith)
    go (yes h) true e = same h e
    go (yes h) false e = other h e

module _ (t index : List ℕ) (i : ℕ) (b : Block) (left : ℕ) where
  on_free : get_or index i 0 ≡ 0 → slot_from t index i (suc left) b ≡ Free i
  on_free z = turn t index i b left ∙ rw (eq-eqb (get_or index i 0) 0 z) refl

  on_same : 0 < get_or index i 0 → is_same (block_here t (get_or index i 0)) b ≡ true → slot_from t index i (suc left) b ≡ Present
  on_same h s = turn t index i b left ∙ rw (ne_eqb (get_or index i 0) 0 (λ z. omega arith), s) refl

  on_other : 0 < get_or index i 0 → is_same (block_here t (get_or index i 0)) b ≡ false → slot_from t index i (suc left) b ≡ slot_from t index (next_slot i) left b
  on_other h s = turn t index i b left ∙ rw (ne_eqb (get_or index i 0) 0 (λ z. omega arith), s) refl

-- a slot that holds the same as before
same_there : (t before after : List ℕ) (i : ℕ) (b : Block) {s : Bool} → get_or after i 0 ≡ get_or before i 0 → is_same (block_here t (get_or before i 0)) b ≡ s → is_same (block_here t (get_or after i 0)) b ≡ s
same_there t before after i b k e = ap (λ (x : ℕ). is_same (block_here t x) b) k ∙ e

-- what the search finds it finds still
module _ (t before after : List ℕ) (b : Block) (k : Kept before after) where
  kept_from_lem : (left i : ℕ) → slot_from t before i left b ≡ Present → slot_from t after i left b ≡ Present
  kept_from_lem zero i e = let z : Full ≡ Present = sym (none t before i b) ∙ e in let y : ◌≡◌ {A = ℕ} 0 1 = cc in absurd (omega arith)
  kept_from_lem (suc left) i e = go (look t before i b) (λ f. kept_from_lem left (next_slot i) f)
    where
      go : Look t before i b → (slot_from t before (next_slot i) left b ≡ Present → slot_from t after (next_slot i) left b ≡ Present) → slot_from t after i (suc left) b ≡ Present
      go (free z) ih = let f : Free i ≡ Present = sym (on_free t before i b left z) ∙ e in let y : ◌≡◌ {A = ℕ} 0 1 = cc in absurd (omega arith)
      go (same h s) ih = on_same t after i b left (omega (arith, k i h)) (same_there t before after i b (k i h) s)
      go (other h s) ih = on_other t after i b left (omega (arith, k i h)) (same_there t before after i b (k i h) s) ∙ ih (sym (on_other t before i b left h s) ∙ e)

  pub kept_present : slot_of t before b ≡ Present → slot_of t after b ≡ Present
  unfolding slot_of
  kept_present e = kept_from_lem 64 (key_of b.hash) e

-- a search that ends at a free slot
module _ (t index : List ℕ) (b : Block) where
  free_from : (left i m : ℕ) → i < 8192 → slot_from t index i left b ≡ Free m → (get_or index m 0 ≡ 0) × (m < 8192)
  free_from zero i m l e = let z : Full ≡ Free m = sym (none t index i b) ∙ e in let y : ◌≡◌ {A = ℕ} 0 1 = cc in absurd (omega arith)
  free_from (suc left) i m l e = go (look t index i b) (λ f. free_from left (next_slot i) m (next_below i) f)
    where
      go : Look t index i b → (slot_from t index (next_slot i) left b ≡ Free m → (get_or index m 0 ≡ 0) × (m < 8192)) → (get_or index m 0 ≡ 0) × (m < 8192)
      go (free z) ih = let f : Free i ≡ Free m = sym (on_free t index i b left z) ∙ e in let y : i ≡ m = cc in (subst (λ (n : ℕ). get_or index n 0 ≡ 0) y z, omega arith)
      go (same h s) ih = let f : Present ≡ Free m = sym (on_same t index i b left h s) ∙ e in let y : ◌≡◌ {A = ℕ} 0 1 = cc in absurd (omega arith)
      go (other h s) ih = ih (sym (on_other t index i b left h s) ∙ e)

  pub free_slot : (m : ℕ) → slot_of t index b ≡ Free m → (get_or index m 0 ≡ 0) × (m < 8192)
  unfolding slot_of
  free_slot m e = free_from 64 (key_of b.hash) m (key_below b.hash) e

-- putting a place into a free slot
module _ (index : List ℕ) (m p : ℕ) (z : get_or index m 0 ≡ 0) where
  pub set_kept : Kept index (set index m p)
  set_kept i h = get_or-set_other index m i p 0 (λ e. omega (arith, z, ap (λ (n : ℕ). get_or index n 0) e))

  pub set_holds : (i : ℕ) → m < length index → (get_or (set index m p) i 0 ≡ get_or index i 0) ⊎ (get_or (set index m p) i 0 ≡ p)
  set_holds i l = go (eqb i m) refl
    where
      go : (v : Bool) → eqb i m ≡ v → (get_or (set index m p) i 0 ≡ get_or index i 0) ⊎ (get_or (set index m p) i 0 ≡ p)
      go true e = inr (subst (λ (n : ℕ). get_or (set index m p) n 0 ≡ p) (sym (eqb-true i m e)) (get_or-set_same index m p 0 l))
      go false e = inl (get_or-set_other index m i p 0 (eqb-false i m e))

-- then the search finds its block
module _ (t index : List ℕ) (b : Block) (m p : ℕ) (long : m < length index) (some : 0 < p) (is : is_same (block_here t p) b ≡ true) (z : get_or index m 0 ≡ 0) where
  put_from : (left i : ℕ) → slot_from t index i left b ≡ Free m → slot_from t (set index m p) i left b ≡ Present
  put_from zero i e = let y : Full ≡ Free m = sym (none t index i b) ∙ e in let x : ◌≡◌ {A = ℕ} 0 1 = cc in absurd (omega arith)
  put_from (suc left) i e = go (look t index i b) (λ f. put_from left (next_slot i) f)
    where
      there : get_or (set index m p) m 0 ≡ p
      there = get_or-set_same index m p 0 long

      go : Look t index i b → (slot_from t index (next_slot i) left b ≡ Free m → slot_from t (set index m p) (next_slot i) left b ≡ Present) → slot_from t (set index m p) i (suc left) b ≡ Present
      go (free y) ih =
          let f : Free i ≡ Free m = sym (on_free t index i b left y) ∙ e in
          let x : i ≡ m = cc in
          let here : get_or (set index m p) i 0 ≡ p = subst (λ (n : ℕ). get_or (set index m p) n 0 ≡ p) (sym x) there in
          on_same t (set index m p) i b left (omega arith) (ap (λ (n : ℕ). is_same (block_here t n) b) here ∙ is)
      go (same h s) ih = let f : Present ≡ Free m = sym (on_same t index i b left h s) ∙ e in let y : ◌≡◌ {A = ℕ} 0 1 = cc in absurd (omega arith)
      go (other h s) ih =
          let k = set_kept index m p z i h in
          on_other t (set index m p) i b left (omega arith) (same_there t index (set index m p) i b k s) ∙ ih (sym (on_other t index i b left h s) ∙ e)

  pub put_present : slot_of t index b ≡ Free m → slot_of t (set index m p) b ≡ Present
  unfolding slot_of
  put_present e = put_from 64 (key_of b.hash) e

-- a slot whose block is the one that was searched for
pub record Hit (t index : List ℕ) (b : Block) : Type 0 where
  pub slot : ℕ
  pub full : 0 < get_or index slot 0
  pub is : is_same (block_here t (get_or index slot 0)) b ≡ true

module _ (t index : List ℕ) (b : Block) where
  hit_from : (left i : ℕ) → slot_from t index i left b ≡ Present → Hit t index b
  hit_from zero i e = let z : Full ≡ Present = sym (none t index i b) ∙ e in let y : ◌≡◌ {A = ℕ} 0 1 = cc in absurd (omega arith)
  hit_from (suc left) i e = go (look t index i b) (λ f. hit_from left (next_slot i) f)
    where
      go : Look t index i b → (slot_from t index (next_slot i) left b ≡ Present → Hit t index b) → Hit t index b
      go (free z) ih = let f : Free i ≡ Present = sym (on_free t index i b left z) ∙ e in let y : ◌≡◌ {A = ℕ} 0 1 = cc in absurd (omega arith)
      go (same h s) ih = record { slot = i; full = h; is = s }
      go (other h s) ih = ih (sym (on_other t index i b left h s) ∙ e)

  pub hit : slot_of t index b ≡ Present → Hit t index b
  unfolding slot_of
  hit e = hit_from 64 (key_of b.hash) e

-- by the answer of a search for the block at a place
module _ (t index : List ℕ) (p : ℕ) {x : Slot} (k : x ≡ slot_of t index (block_here t p)) where
  pub slot_below : {m : ℕ} → x ≡ Free m → m < 8192
  slot_below {m} e = (free_slot t index (block_here t p) m (sym k ∙ e)).1

  pub put_told : {m n : ℕ} → x ≡ Free m → n ≡ p → (true ≡ is_placed (slot_of t index (block_here t p))) × (set index m n ≡ placed index p (slot_of t index (block_here t p)))
  put_told {m} e f = let g = sym e ∙ k in (ap is_placed g, ap (set index m) f ∙ ap (placed index p) g)

  pub placed_told : {y : Slot} → x ≡ y → (is_placed y ≡ is_placed (slot_of t index (block_here t p))) × (placed index p y ≡ placed index p (slot_of t index (block_here t p)))
  placed_told e = let g = sym e ∙ k in (ap is_placed g, ap (placed index p) g)
