-- Making an index: what the loops over records and over blocks keep; and what the search tells of a table with an index.
use Rattle.std.specs.Prelude.{Some, None}
use Rattle.std.specs.declared.option.Option.{Option}
use Prim.Native.Nat.{ℕ, suc, ◌+◌, ◌-◌, ◌*◌, ◌≤◌, ◌<◌}
use mathlib.Core.List.{List, [], ◌∷◌}
use mathlib.Core.Path.{◌≡◌, refl, sym, ap, subst, ◌∙◌}
use mathlib.Core.Logic.{◌⊎◌, inl, inr}
use mathlib.Core.Bool.{Bool, true, false, ◌||◌}
use native.Mathlib.Omega.{arith}
use native.Mathlib.Decide.{dec_lt}
use lib.ListN.{length, get_or, set, length-set, replicate, length-replicate, get_or-replicate, get_or-eq_default}
use Rattle.xdr.specs.Number.{IsBytes}
use Rattle.record.specs.Block.{Block}
use Rattle.record.specs.File.{File}
use Rattle.record.specs.Outline.{outline_of, fields_of, block_place}
use Rattle.record.specs.declared.outline.RecordFields.{RecordFields}
use Rattle.table.specs.Table.{is_good, records}
use Rattle.table.proofs.TableLaws.{good_table}
use Rattle.table.specs.Steps.Standing.{At}
use Rattle.table.proofs.WalkLaws.{at_start_lem, standing}
use Rattle.want.specs.Listing.{is_same, listed, has_block, is_held}
use Rattle.want.specs.Steps.Blocks.{block_here, blocks_from, listed_count}
use Rattle.want.proofs.ListingLaws.{Heads, heads, none_here, listed_blocks, listed_within}
use Rattle.want.specs.Steps.Index.{slot_of, is_present, is_placed, placed, Empty, Within, Indexed}
use Rattle.want.specs.declared.index.Slot.{Slot}
use Rattle.want.specs.declared.index.Slot.TheVariants.{Free, Present, Full}
use Rattle.want.proofs.BlockLaws.{same_is, same_self}
use Rattle.want.proofs.SlotLaws.{kept_present, free_slot, set_kept, set_holds, put_present, hit}

-- by an index: a block is held where the search finds it, and else it isn't

module _ {t index : List ℕ} (w : Indexed t index) (b : Block) where
  found_held : slot_of t index b ≡ Present → true ≡ is_held (records t) b
  found_held e = let h = hit t index b e in sym (subst (λ (c : Block). is_held (records t) c ≡ true) (same_is _ b h.is) (w.sound h.slot h.full))

  pub missed_held : {x : Slot} → x ≡ slot_of t index b → is_present x ≡ is_held (records t) b
  missed_held {x} e = go x (is_held (records t) b) e refl
    where
      go : (y : Slot) (v : Bool) → y ≡ slot_of t index b → is_held (records t) b ≡ v → is_present y ≡ v
      go Present true f g = refl
      go Present false f g = found_held (sym f) ∙ g
      go (Free i) false f g = refl
      go (Free i) true f g = let z : Free i ≡ Present = f ∙ w.whole b g in let y : ◌≡◌ {A = ℕ} 0 1 = cc in absurd (omega arith)
      go Full false f g = refl
      go Full true f g = let z : Full ≡ Present = f ∙ w.whole b g in let y : ◌≡◌ {A = ℕ} 0 1 = cc in absurd (omega arith)

-- an index that lacks at most some of the blocks
pub record Lacking (t index : List ℕ) (rest : Block → Bool) : Type 0 where
  pub long : length index ≡ 8192
  pub within : Within t index
  pub sound : (i : ℕ) → 0 < get_or index i 0 → is_held (records t) (block_here t (get_or index i 0)) ≡ true
  pub whole : (b : Block) → is_held (records t) b ≡ true → (rest b ≡ true) ⊎ (slot_of t index b ≡ Present)

-- a block is put there that the table lists
module _ {t index : List ℕ} {p : ℕ} {rest less : Block → Bool} (w : Lacking t index rest) (here : p + 40 ≤ length t) (some : 0 < p) (listed_there : is_held (records t) (block_here t p) ≡ true)
    (fewer : (b : Block) → rest b ≡ true → (is_same (block_here t p) b ≡ true) ⊎ (less b ≡ true)) where
  lack_free : (m : ℕ) → slot_of t index (block_here t p) ≡ Free m → Lacking t (set index m p) less
  lack_free m e =
      record {
        long = length-set index m p ∙ w.long;
        within = λ i h. inside i h (set_holds index m p free.0 i below);
        sound = λ i h. right i h (set_holds index m p free.0 i below);
        whole = λ b h. all b (w.whole b h);
      }
    where
      free : (get_or index m 0 ≡ 0) × (m < 8192)
      free = free_slot t index (block_here t p) m e

      below : m < length index
      below = omega (arith, free.1, w.long)

      inside : (i : ℕ) → 0 < get_or (set index m p) i 0 → (get_or (set index m p) i 0 ≡ get_or index i 0) ⊎ (get_or (set index m p) i 0 ≡ p) → get_or (set index m p) i 0 + 40 ≤ length t
      inside i h (inl k) = omega (arith, k, w.within i (omega arith))
      inside i h (inr k) = omega arith

      right : (i : ℕ) → 0 < get_or (set index m p) i 0 → (get_or (set index m p) i 0 ≡ get_or index i 0) ⊎ (get_or (set index m p) i 0 ≡ p) → is_held (records t) (block_here t (get_or (set index m p) i 0)) ≡ true
      right i h (inl k) = ap (λ (n : ℕ). is_held (records t) (block_here t n)) k ∙ w.sound i (omega arith)
      right i h (inr k) = ap (λ (n : ℕ). is_held (records t) (block_here t n)) k ∙ listed_there

      now_there : slot_of t (set index m p) (block_here t p) ≡ Present
      now_there = put_present t index (block_here t p) m p below some (same_self (block_here t p)) free.0 e

      all : (b : Block) → (rest b ≡ true) ⊎ (slot_of t index b ≡ Present) → (less b ≡ true) ⊎ (slot_of t (set index m p) b ≡ Present)
      all b (inr f) = inr (kept_present t index (set index m p) b (set_kept index m p free.0) f)
      all b (inl r) = go (fewer b r)
        where
          go : (is_same (block_here t p) b ≡ true) ⊎ (less b ≡ true) → (less b ≡ true) ⊎ (slot_of t (set index m p) b ≡ Present)
          go (inr l) = inl l
          go (inl s) = inr (subst (λ (d : Block). slot_of t (set index m p) d ≡ Present) (same_is (block_here t p) b s) now_there)

  lack_present : slot_of t index (block_here t p) ≡ Present → Lacking t index less
  lack_present e = record { long = w.long; within = w.within; sound = w.sound; whole = λ b h. all b (w.whole b h) }
    where
      all : (b : Block) → (rest b ≡ true) ⊎ (slot_of t index b ≡ Present) → (less b ≡ true) ⊎ (slot_of t index b ≡ Present)
      all b (inr f) = inr f
      all b (inl r) = go (fewer b r)
        where
          go : (is_same (block_here t p) b ≡ true) ⊎ (less b ≡ true) → (less b ≡ true) ⊎ (slot_of t index b ≡ Present)
          go (inr l) = inl l
          go (inl s) = inr (subst (λ (d : Block). slot_of t index d ≡ Present) (same_is (block_here t p) b s) e)

  lack_turn : {v : Bool} {after : List ℕ} → v ≡ is_placed (slot_of t index (block_here t p)) → v ≡ true → after ≡ placed index p (slot_of t index (block_here t p)) → Lacking t after less
  lack_turn {v} {after} k h e = subst (λ (l : List ℕ). Lacking t l less) (sym e) (go (slot_of t index (block_here t p)) refl (sym k ∙ h))
    where
      go : (x : Slot) → slot_of t index (block_here t p) ≡ x → is_placed x ≡ true → Lacking t (placed index p x) less
      go (Free m) f g = lack_free m f
      go Present f g = lack_present f
      go Full f g = cc

-- before a record
pub record Indexing (t index : List ℕ) (at : ℕ) : Type 0 where
  pub left : List File
  pub here : At t at left
  pub all : (b : Block) → is_held left b ≡ true → is_held (records t) b ≡ true
  pub so_far : Lacking t index (is_held left)
  pub short : length t ≤ 65536

-- the blocks of a record from block j on, and those of the records after it
abbrev pub rest_of : (t : List ℕ) → (count first j : ℕ) → List File → Block → Bool
rest_of t count first j tail b = has_block (blocks_from t first j (count - j)) b || is_held tail b

-- before block j of a record
pub record Adding (t index : List ℕ) (at : ℕ) (f : RecordFields) (count first j : ℕ) : Type 0 where
  pub head : File
  pub tail : List File
  pub here : At t at (head ∷ tail)
  pub fields_are : f ≡ fields_of at head
  pub all : (b : Block) → rest_of t count first j tail b ≡ true → is_held (records t) b ≡ true
  pub so_far : Lacking t index (rest_of t count first j tail)
  pub within : first + count * 40 ≤ length t
  pub some : 0 < first
  pub short : length t ≤ 65536

pub index_starts : (t index : List ℕ) → IsBytes t → is_good t ≡ true → Empty index → Indexing t index 4
index_starts t index p g e =
    let u = good_table t p g in
    record {
      left = records t;
      here = at_start_lem u;
      all = λ b h. h;
      so_far =
          record {
            long = e.long;
            within = λ i h. absurd (omega (arith, e.free i));
            sound = λ i h. absurd (omega (arith, e.free i));
            whole = λ b h. inl h;
          };
      short = u.short;
    }

module _ {t index : List ℕ} {at : ℕ} (w : Indexing t index at) where
  -- no record is left
  pub index_ends : {x : Option RecordFields} → x ≡ outline_of t at → x ≡ None → Indexed t index
  index_ends e g = record { long = w.so_far.long; within = w.so_far.within; sound = w.so_far.sound; whole = λ b h. go b (w.so_far.whole b h) }
    where
      none : w.left ≡ []
      none = none_here w.left w.here e g

      go : (b : Block) → (is_held w.left b ≡ true) ⊎ (slot_of t index b ≡ Present) → slot_of t index b ≡ Present
      go b (inr f) = f
      go b (inl r) = let z : false ≡ true = sym (ap (λ (l : List File). is_held l b) none) ∙ r in let y : ◌≡◌ {A = ℕ} 0 1 = cc in absurd (omega arith)

  -- the blocks of the next one
  pub index_opens : {x : Option RecordFields} {f : RecordFields} {count : ℕ} → x ≡ outline_of t at → x ≡ Some f → count ≡ listed_count f → Adding t index at f count f.first 0
  index_opens {x} {f} {count} e g k =
      record {
        head = h.head;
        tail = h.tail;
        here = h.here;
        fields_are = h.fields_are;
        all = λ b r. w.all b (sym (rests b) ∙ r);
        so_far = record { long = w.so_far.long; within = w.so_far.within; sound = w.so_far.sound; whole = λ b r. go b (w.so_far.whole b r) };
        within = omega (arith, first, many, listed_within h.here);
        some = omega (arith, first);
        short = w.short;
      }
    where
      h : Heads t at w.left f
      h = heads w.left w.here e g

      first : f.first ≡ (fields_of at h.head).first
      first = ap (λ (y : RecordFields). y.first) h.fields_are

      many : count - 0 ≡ listed_count (fields_of at h.head)
      many = let all : count - 0 ≡ count = omega arith in all ∙ k ∙ ap listed_count h.fields_are

      blocks : blocks_from t f.first 0 (count - 0) ≡ listed h.head
      blocks = ap (λ (i : ℕ). blocks_from t i 0 (count - 0)) first ∙ ap (blocks_from t (fields_of at h.head).first 0) many ∙ listed_blocks h.here

      rests : (b : Block) → rest_of t count f.first 0 h.tail b ≡ is_held w.left b
      rests b = ap (λ (l : List Block). has_block l b || is_held h.tail b) blocks ∙ sym (ap (λ (l : List File). is_held l b) h.is)

      go : (b : Block) → (is_held w.left b ≡ true) ⊎ (slot_of t index b ≡ Present) → (rest_of t count f.first 0 h.tail b ≡ true) ⊎ (slot_of t index b ≡ Present)
      go b (inl r) = inl (rests b ∙ r)
      go b (inr f) = inr f

module _ {t index : List ℕ} {at : ℕ} {f : RecordFields} {count first j : ℕ} (w : Adding t index at f count first j) where
  next_blocks : j < count → blocks_from t first j (count - j) ≡ block_here t (block_place first j) ∷ blocks_from t first (j + 1) (count - (j + 1))
  next_blocks h = let left : count - j ≡ suc (count - (j + 1)) = omega arith in ap (blocks_from t first j) left

  pub add_there : j < count → block_place first j + 40 ≤ length t
  add_there h = omega (arith, w.within)

  -- block j was put there
  pub add_turn : {p : ℕ} {v : Bool} {after : List ℕ} → j < count → p ≡ block_place first j → v ≡ is_placed (slot_of t index (block_here t p)) → v ≡ true
      → after ≡ placed index p (slot_of t index (block_here t p)) → Adding t after at f count first (j + 1)
  add_turn {p} {v} {after} h q k g e =
      record {
        head = w.head;
        tail = w.tail;
        here = w.here;
        fields_are = w.fields_are;
        all = λ b r. w.all b (grown b r);
        so_far = lack_turn w.so_far (omega (arith, w.within)) (omega (arith, w.some)) listed_there fewer k g e;
        within = w.within;
        some = w.some;
        short = w.short;
      }
    where
      opened : (b : Block) → rest_of t count first j w.tail b ≡ ((is_same (block_here t p) b || has_block (blocks_from t first (j + 1) (count - (j + 1))) b) || is_held w.tail b)
      opened b =
          ap (λ (l : List Block). has_block l b || is_held w.tail b) (next_blocks h)
          ∙ ap (λ (n : ℕ). (is_same (block_here t n) b || has_block (blocks_from t first (j + 1) (count - (j + 1))) b) || is_held w.tail b) (sym q)

      or_grows : (s a c : Bool) → (a || c) ≡ true → ((s || a) || c) ≡ true
      or_grows true a c r = refl
      or_grows false a c r = r

      or_front : (s a c : Bool) → s ≡ true → ((s || a) || c) ≡ true
      or_front true a c r = refl
      or_front false a c r = cc

      or_splits : (s a c : Bool) → ((s || a) || c) ≡ true → (s ≡ true) ⊎ ((a || c) ≡ true)
      or_splits true a c r = inl refl
      or_splits false a c r = inr r

      grown : (b : Block) → rest_of t count first (j + 1) w.tail b ≡ true → rest_of t count first j w.tail b ≡ true
      grown b r = opened b ∙ or_grows (is_same (block_here t p) b) (has_block (blocks_from t first (j + 1) (count - (j + 1))) b) (is_held w.tail b) r

      fewer : (b : Block) → rest_of t count first j w.tail b ≡ true → (is_same (block_here t p) b ≡ true) ⊎ (rest_of t count first (j + 1) w.tail b ≡ true)
      fewer b r = or_splits (is_same (block_here t p) b) (has_block (blocks_from t first (j + 1) (count - (j + 1))) b) (is_held w.tail b) (sym (opened b) ∙ r)

      listed_there : is_held (records t) (block_here t p) ≡ true
      listed_there =
          w.all (block_here t p)
          (opened (block_here t p)
          ∙ or_front (is_same (block_here t p) (block_here t p)) (has_block (blocks_from t first (j + 1) (count - (j + 1))) (block_here t p)) (is_held w.tail (block_here t p)) (same_self (block_here t p)))

  pub grows : at + 1 ≤ f.past
  grows = omega (arith, ap (λ (y : RecordFields). y.past) w.fields_are)

  pub inside : f.past ≤ length t
  inside = omega (arith, ap (λ (y : RecordFields). y.past) w.fields_are, (standing w.here).next.inside)

  -- all of its blocks are there
  pub add_closes : count ≤ j → Indexing t index f.past
  add_closes h =
      record {
        left = w.tail;
        here = subst (λ (p : ℕ). At t p w.tail) (sym (ap (λ (y : RecordFields). y.past) w.fields_are)) (standing w.here).next;
        all = λ b r. w.all b (same b ∙ r);
        so_far = record { long = w.so_far.long; within = w.so_far.within; sound = w.so_far.sound; whole = λ b r. go b (w.so_far.whole b r) };
        short = w.short;
      }
    where
      same : (b : Block) → rest_of t count first j w.tail b ≡ is_held w.tail b
      same b = let none : count - j ≡ 0 = omega arith in ap (λ (k : ℕ). has_block (blocks_from t first j k) b || is_held w.tail b) none

      go : (b : Block) → (rest_of t count first j w.tail b ≡ true) ⊎ (slot_of t index b ≡ Present) → (is_held w.tail b ≡ true) ⊎ (slot_of t index b ≡ Present)
      go b (inl r) = inl (sym (same b) ∙ r)
      go b (inr f) = inr f

-- slots that are all free

zeros_free : (n i : ℕ) → ◌≡◌ {A = ℕ} (get_or (replicate n 0) i 0) 0
zeros_free n i = go (dec_lt i n)
  where
    go : Dec (i < n) → ◌≡◌ {A = ℕ} (get_or (replicate n 0) i 0) 0
    go (yes h) = get_or-replicate n i 0 0 h
    go (no h) = get_or-eq_default (replicate n 0) 0 (omega (arith, length-replicate {A = ℕ} n 0))

pub zeros_empty : Empty (replicate 8192 0)
zeros_empty = record { long = length-replicate {A = ℕ} 8192 0; free = zeros_free 8192 }
