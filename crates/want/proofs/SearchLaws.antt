-- Searching a table for a block: what the loop over records and the loop over blocks keep.
use Rattle.std.specs.Prelude.{Ok, Err, is_some}
use Rattle.std.specs.Prelude.{Some, None}
use Rattle.std.specs.declared.option.Option.{Option}
use Prim.Native.Nat.{ℕ, suc, ◌+◌, ◌-◌, ◌*◌, ◌≤◌, ◌<◌}
use mathlib.Core.List.{List, [], ◌∷◌}
use mathlib.Core.Path.{◌≡◌, refl, sym, ap, subst, ◌∙◌}
use mathlib.Core.Bool.{Bool, true, false, cond, ◌||◌}
use native.Mathlib.Omega.{arith}
use lib.ListN.{length}
use Rattle.xdr.specs.Answers.{at_start}
use Rattle.xdr.specs.Number.{IsBytes}
use Rattle.record.specs.Block.{Block}
use Rattle.record.specs.File.{File}
use Rattle.record.specs.Outline.{outline_of, fields_of, block_place}
use Rattle.record.specs.declared.outline.RecordFields.{RecordFields}
use Rattle.table.specs.Table.{is_good, records}
use Rattle.table.proofs.TableLaws.{good_table}
use Rattle.table.specs.Steps.Standing.{At}
use Rattle.table.proofs.WalkLaws.{at_start_lem, standing}
use Rattle.want.specs.Listing.{is_same, listed, has_block, is_held}
use Rattle.want.specs.Steps.Blocks.{block_here, blocks_from, listed_count}
use Rattle.want.specs.Found.{block_at, found_among, found_from, found_in}
use Rattle.want.specs.declared.search.Found.{Found}
use Rattle.want.proofs.ListingLaws.{heads, none_here, listed_blocks, listed_within}

-- before record n, at a place: nothing was found so far
pub record Searched (t : List ℕ) (b : Block) (at n : ℕ) : Type 0 where
  pub left : List File
  pub here : At t at left
  pub same : found_from 0 (records t) b ≡ found_from n left b
  pub few : n ≤ at
  pub short : length t ≤ 65536

-- before block j of record n
pub record Searching (t : List ℕ) (b : Block) (at n : ℕ) (f : RecordFields) (count first j : ℕ) : Type 0 where
  pub head : File
  pub tail : List File
  pub here : At t at (head ∷ tail)
  pub fields_are : f ≡ fields_of at head
  pub same : found_from 0 (records t) b ≡ found_among n j (blocks_from t first j (count - j)) b (found_from (n + 1) tail b)
  pub within : first + count * 40 ≤ length t
  pub few : n ≤ at
  pub short : length t ≤ 65536

pub search_starts : (t : List ℕ) (b : Block) → IsBytes t → is_good t ≡ true → Searched t b 4 0
search_starts t b p g = let u = good_table t p g in record { left = records t; here = at_start_lem u; same = refl; few = omega arith; short = u.short }

module _ {t : List ℕ} {b : Block} {at n : ℕ} (w : Searched t b at n) where
  -- no record is left
  pub search_ends : {x : Option RecordFields} → x ≡ outline_of t at → x ≡ None → None ≡ found_from 0 (records t) b
  search_ends e g = sym (w.same ∙ ap (λ (l : List File). found_from n l b) (none_here w.left w.here e g))

  -- the blocks of the next one
  pub search_opens : {x : Option RecordFields} {f : RecordFields} {count : ℕ} → x ≡ outline_of t at → x ≡ Some f → count ≡ listed_count f → Searching t b at n f count f.first 0
  search_opens {x} {f} {count} e g k =
      let h = heads w.left w.here e g in
      let first : f.first ≡ (fields_of at h.head).first = ap (λ (y : RecordFields). y.first) h.fields_are in
      let all : count - 0 ≡ count = omega arith in
      let many : count - 0 ≡ listed_count (fields_of at h.head) = all ∙ k ∙ ap listed_count h.fields_are in
      let blocks : blocks_from t f.first 0 (count - 0) ≡ listed h.head =
      ap (λ (i : ℕ). blocks_from t i 0 (count - 0)) first ∙ ap (blocks_from t (fields_of at h.head).first 0) many ∙ listed_blocks h.here in
      record {
        head = h.head;
        tail = h.tail;
        here = h.here;
        fields_are = h.fields_are;
        same =
            w.same
            ∙ ap (λ (l : List File). found_from n l b) h.is
            ∙ ap (λ (l : List Block). found_among n 0 l b (found_from (n + 1) h.tail b)) (sym blocks);
        within = omega (arith, first, many, listed_within h.here);
        few = w.few;
        short = w.short;
      }

module _ {t : List ℕ} {b : Block} {at n : ℕ} {f : RecordFields} {count first j : ℕ} (w : Searching t b at n f count first j) where
  -- block j is next
  next_block : j < count → found_from 0 (records t) b ≡ cond (is_same (block_here t (block_place first j)) b) (Some (block_at n j)) (found_among n (j + 1) (blocks_from t first (j + 1) (count - (j + 1))) b (found_from (n + 1) w.tail b))
  next_block h =
      let left : count - j ≡ suc (count - (j + 1)) = omega arith in
      w.same ∙ ap (λ (k : ℕ). found_among n j (blocks_from t first j k) b (found_from (n + 1) w.tail b)) left

  pub block_there : j < count → block_place first j + 40 ≤ length t
  block_there h = omega (arith, w.within)

  told_there : {p : ℕ} {r v : Bool} → p ≡ block_place first j → r ≡ is_same (block_here t p) b → r ≡ v → is_same (block_here t (block_place first j)) b ≡ v
  told_there q e g = ap (λ (k : ℕ). is_same (block_here t k) b) (sym q) ∙ sym e ∙ g

  pub search_found : {p : ℕ} {r : Bool} → j < count → p ≡ block_place first j → r ≡ is_same (block_here t p) b → r ≡ true → Some (block_at n j) ≡ found_from 0 (records t) b
  search_found h q e g = sym (next_block h ∙ rw (told_there q e g) refl)

  pub search_passes : {p : ℕ} {r : Bool} → j < count → p ≡ block_place first j → r ≡ is_same (block_here t p) b → r ≡ false → Searching t b at n f count first (j + 1)
  search_passes h q e g =
      record {
        head = w.head;
        tail = w.tail;
        here = w.here;
        fields_are = w.fields_are;
        same = next_block h ∙ rw (told_there q e g) refl;
        within = w.within;
        few = w.few;
        short = w.short;
      }

  pub grows : at + 1 ≤ f.past
  grows = omega (arith, ap (λ (y : RecordFields). y.past) w.fields_are)

  pub inside : f.past ≤ length t
  inside = omega (arith, ap (λ (y : RecordFields). y.past) w.fields_are, (standing w.here).next.inside)

  -- none of its blocks is the one
  pub search_closes : count ≤ j → Searched t b f.past (n + 1)
  search_closes h =
      let past : f.past ≡ (fields_of at w.head).past = ap (λ (y : RecordFields). y.past) w.fields_are in
      let none : count - j ≡ 0 = omega arith in
      record {
        left = w.tail;
        here = subst (λ (p : ℕ). At t p w.tail) (sym past) (standing w.here).next;
        same = w.same ∙ ap (λ (k : ℕ). found_among n j (blocks_from t first j k) b (found_from (n + 1) w.tail b)) none;
        few = omega (arith, w.few, grows);
        short = w.short;
      }

-- by whether the table is good

pub found_bad : (t : List ℕ) (b : Block) → is_good t ≡ false → Err (at_start 15) ≡ found_in t b
unfolding found_in
found_bad t b e = rw e refl

pub found_good : (t : List ℕ) (b : Block) {r : Option Found} → is_good t ≡ true → r ≡ found_from 0 (records t) b → Ok r ≡ found_in t b
unfolding found_in
found_good t b e f = rw e (ap Ok f)

-- what is found is held

found_among_lem : (n j : ℕ) (l : List Block) (b : Block) (r : Option Found) → is_some (found_among n j l b r) ≡ (has_block l b || is_some r)
found_among_lem n j [] b r = refl
found_among_lem n j (c ∷ l) b r = go (is_same c b) (found_among_lem n (j + 1) l b r)
  where
    go : (s : Bool) → is_some (found_among n (j + 1) l b r) ≡ (has_block l b || is_some r)
        → is_some (cond s (Some (block_at n j)) (found_among n (j + 1) l b r)) ≡ ((s || has_block l b) || is_some r)
    go true ih = refl
    go false ih = ih

pub found_held : (n : ℕ) (fs : List File) (b : Block) → is_some (found_from n fs b) ≡ is_held fs b
found_held n [] b = refl
found_held n (f ∷ fs) b = found_among_lem n 0 (listed f) b (found_from (n + 1) fs b) ∙ ap (λ (r : Bool). has_block (listed f) b || r) (found_held (n + 1) fs b)

-- by the answer of a search
pub held_by : (fs : List File) (b : Block) {x : Option Found} → x ≡ found_from 0 fs b → is_some x ≡ is_held fs b
held_by fs b e = ap is_some e ∙ found_held 0 fs b
