-- The first local block of a Length and a hash: the search finds it, or there is none.
use Rattle.std.specs.Prelude.{Some, None}
use Rattle.std.specs.declared.option.Option.{Option}
use Prim.Native.Nat.{ℕ, suc, ◌+◌}
use mathlib.Core.List.Memᴰ
use mathlib.Core.List.{List, [], ◌∷◌, ◌++◌}
use mathlib.Core.Path.{◌≡◌, refl, sym, ap, subst, ◌∙◌}
use mathlib.Core.Logic.{◌⊎◌, inl, inr, ⊎_elim}
use mathlib.Core.Bool.{Bool, true, false, cond, ◌||◌}
use native.Mathlib.Omega.{arith}
use native.Mathlib.Nat.{zero-add}
use lib.ListN.{length}
use Rattle.record.specs.Block.{Block}
use Rattle.record.specs.File.{File}
use Rattle.want.specs.Listing.{is_same, listed, has_block, is_held}
use Rattle.want.specs.Found.{block_at, found_among, found_from}
use Rattle.want.specs.declared.search.Found.{Found}
use Rattle.promises.proofs.HeldLaws.{neither, alike, alike_parts, has_none, none_has, words_unheld}
use Rattle.promises.specs.Why.{NoneSame, FirstHeld}

module _ (b : Block) where
  -- the search passes what isn't the one

  none_among : (n j : ℕ) (l : List Block) (other : Option Found) → has_block l b ≡ false → found_among n j l b other ≡ other
  none_among n j [] other e = refl
  none_among n j (c ∷ l) other e =
      let w = neither (is_same c b) (has_block l b) e in
      ap (λ (x : Bool). cond x (Some (block_at n j)) (found_among n (j + 1) l b other)) w.0 ∙ none_among n (j + 1) l other w.1

  pub none_found : (n : ℕ) (fs : List File) → is_held fs b ≡ false → found_from n fs b ≡ None
  none_found n [] e = refl
  none_found n (f ∷ fs) e =
      let w = neither (has_block (listed f) b) (is_held fs b) e in
      none_among n 0 (listed f) (found_from (n + 1) fs b) w.0 ∙ none_found (n + 1) fs w.1

  -- and stops at the first that is

  among_found : (n j : ℕ) (front : List Block) (c : Block) (rest : List Block) (other : Option Found) → has_block front b ≡ false → is_same c b ≡ true
      → found_among n j (front ++ (c ∷ rest)) b other ≡ Some (block_at n (j + length front))
  among_found n j [] c rest other e s =
      let same : j ≡ j + 0 = omega arith in
      ap (λ (x : Bool). cond x (Some (block_at n j)) (found_among n (j + 1) rest b other)) s ∙ ap (λ (k : ℕ). Some (block_at n k)) same
  among_found n j (d ∷ front) c rest other e s =
      let w = neither (is_same d b) (has_block front b) e in
      let sum : j + 1 + length front ≡ j + suc (length front) = omega arith in
      ap (λ (x : Bool). cond x (Some (block_at n j)) (found_among n (j + 1) (front ++ (c ∷ rest)) b other)) w.0
      ∙ among_found n (j + 1) front c rest other w.1 s
      ∙ ap (λ (k : ℕ). Some (block_at n k)) sum

  from_found : (n : ℕ) (before : List File) (f : File) (after : List File) {j : ℕ} → is_held before b ≡ false
      → ((m : ℕ) (other : Option Found) → found_among m 0 (listed f) b other ≡ Some (block_at m j)) → found_from n (before ++ (f ∷ after)) b ≡ Some (block_at (n + length before) j)
  from_found n [] f after {j} e s =
      let same : n ≡ n + 0 = omega arith in
      s n (found_from (n + 1) after b) ∙ ap (λ (k : ℕ). Some (block_at k j)) same
  from_found n (g ∷ before) f after {j} e s =
      let w = neither (has_block (listed g) b) (is_held before b) e in
      let sum : n + 1 + length before ≡ n + suc (length before) = omega arith in
      none_among n 0 (listed g) (found_from (n + 1) (before ++ (f ∷ after)) b) w.0
      ∙ from_found (n + 1) before f after w.1 s
      ∙ ap (λ (k : ℕ). Some (block_at k j)) sum

  pub first_found : (local : List File) (r j : ℕ) → FirstHeld local b r j → found_from 0 local b ≡ Some (block_at r j)
  first_found local r j h =
      ap (λ (l : List File). found_from 0 l b) h.among
      ∙ from_found 0 h.before h.holder h.after (words_unheld h.before b h.none_before) (λ m other.
      ap (λ (l : List Block). found_among m 0 l b other) h.within
      ∙ among_found m 0 h.front h.same h.rest other (none_has h.front b h.none_in_front) (alike h.same b h.size h.hash)
      ∙ ap (λ (k : ℕ). Some (block_at m k)) (zero-add (length h.front) ∙ h.block_number))
      ∙ ap (λ (k : ℕ). Some (block_at k j)) (zero-add (length h.before) ∙ h.record_number)

  -- there is one, or none

  record FirstIn (l : List Block) : Type 0 where
    front : List Block
    same : Block
    rest : List Block
    within : l ≡ front ++ (same ∷ rest)
    is : is_same same b ≡ true
    none : has_block front b ≡ false

  first_in : (l : List Block) → (has_block l b ≡ false) ⊎ FirstIn l
  first_in [] = inl refl
  first_in (c ∷ l) = go (is_same c b) refl (first_in l)
    where
      go : (v : Bool) → is_same c b ≡ v → (has_block l b ≡ false) ⊎ FirstIn l → (has_block (c ∷ l) b ≡ false) ⊎ FirstIn (c ∷ l)
      go true e ih = inr (record { front = []; same = c; rest = l; within = refl; is = e; none = refl })
      go false e (inl k) = inl (ap (λ (x : Bool). x || has_block l b) e ∙ k)
      go false e (inr k) =
          inr (record {
            front = c ∷ k.front;
            same = k.same;
            rest = k.rest;
            within = ap (λ (x : List Block). c ∷ x) k.within;
            is = k.is;
            none = ap (λ (x : Bool). x || has_block k.front b) e ∙ k.none;
          })

  pub record Somewhere (local : List File) : Type 0 where
    pub r : ℕ
    pub j : ℕ
    pub first : FirstHeld local b r j

  -- a record that holds it is the first, or one after it
  held_here : (f : File) (fs : List File) → FirstIn (listed f) → Somewhere (f ∷ fs)
  held_here f fs k =
      let p = alike_parts k.same b k.is in
      record {
        r = 0;
        j = length k.front;
        first = record {
          before = [];
          holder = f;
          after = fs;
          among = refl;
          record_number = refl;
          front = k.front;
          same = k.same;
          rest = k.rest;
          within = k.within;
          block_number = refl;
          size = p.0;
          hash = p.1;
          none_before = λ g m. absurd (Memᴰ.not-nil m);
          none_in_front = has_none k.front b k.none;
        };
      }

  held_later : (f : File) (fs : List File) → has_block (listed f) b ≡ false → Somewhere fs → Somewhere (f ∷ fs)
  held_later f fs e k =
      let w = k.first in
      record {
        r = suc k.r;
        j = k.j;
        first = record {
          before = f ∷ w.before;
          holder = w.holder;
          after = w.after;
          among = ap (λ (x : List File). f ∷ x) w.among;
          record_number = ap suc w.record_number;
          front = w.front;
          same = w.same;
          rest = w.rest;
          within = w.within;
          block_number = w.block_number;
          size = w.size;
          hash = w.hash;
          none_before = λ g m. ⊎_elim (λ q. subst (λ (x : File). NoneSame (listed x) b) (sym q) (has_none (listed f) b e)) (λ i. w.none_before g i) (Memᴰ.cases_cons m);
          none_in_front = w.none_in_front;
        };
      }

  pub held_or_not : (fs : List File) → (is_held fs b ≡ false) ⊎ Somewhere fs
  held_or_not [] = inl refl
  held_or_not (f ∷ fs) = go (first_in (listed f)) (held_or_not fs)
    where
      go : (has_block (listed f) b ≡ false) ⊎ FirstIn (listed f) → (is_held fs b ≡ false) ⊎ Somewhere fs → (is_held (f ∷ fs) b ≡ false) ⊎ Somewhere (f ∷ fs)
      go (inr k) ih = inr (held_here f fs k)
      go (inl e) (inl q) = inl (ap (λ (x : Bool). x || is_held fs b) e ∙ q)
      go (inl e) (inr k) = inr (held_later f fs e k)
