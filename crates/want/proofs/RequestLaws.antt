-- What the request list holds: an entry for each block of a highest record that is valid and undeleted and that no such local record lists, and
-- nothing else; by name, then by block; and for each the lowest peer that lists it there, which there always is.
use Prim.Native.Nat.{ℕ, zero, suc, ◌+◌, ◌<◌}
use mathlib.Core.List.Memᴰ
use mathlib.Core.List.{List, [], ◌∷◌, ◌++◌, Memᴰ}
use mathlib.Core.Path.{◌≡◌, refl, sym, ap, subst, ◌∙◌}
use mathlib.Core.Logic.{◌⊎◌, inl, inr, ⊎_elim}
use mathlib.Core.Bool.{Bool, true, false, cond, ◌&&◌}
use native.Mathlib.Omega.{arith}
use borrow.Author.Tests.{eq-eqb}
use lib.ListN.{length, get_or}
use lib.Dec.{eqb}
use Rattle.record.specs.Block.{Block, total_size}
use Rattle.record.specs.File.{File}
use Rattle.order.proofs.OrderLaws.{same_equal}
use Rattle.record.proofs.RisingLaws.{Rising}
use Rattle.merge.specs.Merged.{merged_of}
use Rattle.merge.proofs.HighestLaws.{◌∈◌, above_all, merged_highest}
use Rattle.want.specs.Listing.{is_same, listed, has_block, is_held, has_there, lists_there}
use Rattle.want.specs.Wanted.{peer_from, wanted_block, wanted_blocks, wanted_files, request_list, Earlier, Ordered}
use Rattle.want.specs.declared.list.Wanted.{Wanted}
use Rattle.want.proofs.BlockLaws.{same_self}
use Rattle.want.proofs.HeldLaws.{or_true, has_itself, held_by_record}
use Rattle.want.proofs.HeadLaws.{Within, in_joined}

-- an entry for one of some blocks, the first of which has a number and an offset
pub record Entry (local : List File) (peer : ℕ → Block → ℕ) (file j offset : ℕ) (l : List Block) (w : Wanted) : Type 0 where
  pub front : List Block
  pub block : Block
  pub rest : List Block
  pub split : l ≡ front ++ (block ∷ rest)
  pub free : is_held local block ≡ false
  pub file_is : w.file ≡ file
  pub block_is : w.block ≡ j + length front
  pub offset_is : w.offset ≡ offset + total_size front
  pub size_is : w.size ≡ block.size
  pub peer_is : w.peer ≡ peer w.offset block

by_fields : (w : Wanted) (file block offset size peer : ℕ) → w.file ≡ file → w.block ≡ block → w.offset ≡ offset → w.size ≡ size → w.peer ≡ peer
    → w ≡ record { file = file; block = block; offset = offset; size = size; peer = peer }
by_fields w file block offset size peer p q r s t = rw (← p, ← q, ← r, ← s, ← t) refl

module _ (local : List File) (peer : ℕ → Block → ℕ) (file : ℕ) where
  pub one_of : (j offset : ℕ) (b : Block) (w : Wanted) (v : Bool) → is_held local b ≡ v → Memᴰ w (cond v [] (record { file = file; block = j; offset = offset; size = b.size; peer = peer offset b } ∷ []))
      → (is_held local b ≡ false) × (w ≡ record { file = file; block = j; offset = offset; size = b.size; peer = peer offset b })
  one_of j offset b w true e m = absurd (Memᴰ.not-nil m)
  one_of j offset b w false e m = (e, ⊎_elim (λ q. q) (λ q. absurd (Memᴰ.not-nil q)) (Memᴰ.cases_cons m))

  -- each of the list is one
  pub entry_of : (l : List Block) (j offset : ℕ) (w : Wanted) → Memᴰ w (wanted_blocks local peer file j offset l) → Entry local peer file j offset l w
  entry_of [] j offset w m = absurd (Memᴰ.not-nil m)
  entry_of (b ∷ l) j offset w m = go (Memᴰ.append_cases (wanted_block local peer file j offset b) m) (λ k. entry_of l (j + 1) (offset + b.size) w k)
    where
      go : Memᴰ w (wanted_block local peer file j offset b) ⊎ Memᴰ w (wanted_blocks local peer file (j + 1) (offset + b.size) l)
          → (Memᴰ w (wanted_blocks local peer file (j + 1) (offset + b.size) l) → Entry local peer file (j + 1) (offset + b.size) l w) → Entry local peer file j offset (b ∷ l) w
      go (inl k) ih =
          let p = one_of j offset b w (is_held local b) refl k in
          record {
            front = [];
            block = b;
            rest = l;
            split = refl;
            free = p.0;
            file_is = ap (λ (x : Wanted). x.file) p.1;
            block_is = ap (λ (x : Wanted). x.block) p.1 ∙ omega arith;
            offset_is = ap (λ (x : Wanted). x.offset) p.1 ∙ omega arith;
            size_is = ap (λ (x : Wanted). x.size) p.1;
            peer_is = ap (λ (x : Wanted). x.peer) p.1 ∙ ap (λ (n : ℕ). peer n b) (sym (ap (λ (x : Wanted). x.offset) p.1));
          }
      go (inr k) ih =
          let e = ih k in
          record {
            front = b ∷ e.front;
            block = e.block;
            rest = e.rest;
            split = ap (λ (x : List Block). b ∷ x) e.split;
            free = e.free;
            file_is = e.file_is;
            block_is = omega (arith, e.block_is);
            offset_is = omega (arith, e.offset_is);
            size_is = e.size_is;
            peer_is = e.peer_is;
          }

  here : (j offset : ℕ) (b : Block) (w : Wanted) → is_held local b ≡ false → w.file ≡ file → w.block ≡ j → w.offset ≡ offset → w.size ≡ b.size → w.peer ≡ peer w.offset b
      → Memᴰ w (wanted_block local peer file j offset b)
  here j offset b w f p q r s t =
      rw f (Memᴰ.head (by_fields w file j offset b.size (peer offset b) p q r s (t ∙ ap (λ (n : ℕ). peer n b) r)))

  -- and each one is in the list
  pub entry_in : (front : List Block) (block : Block) (rest : List Block) (j offset : ℕ) (w : Wanted) → is_held local block ≡ false → w.file ≡ file → w.block ≡ j + length front → w.offset ≡ offset + total_size front
      → w.size ≡ block.size → w.peer ≡ peer w.offset block → Memᴰ w (wanted_blocks local peer file j offset (front ++ (block ∷ rest)))
  entry_in [] block rest j offset w f p q r s t =
      Memᴰ.append_left (wanted_blocks local peer file (j + 1) (offset + block.size) rest) (here j offset block w f p (q ∙ omega arith) (r ∙ omega arith) s t)
  entry_in (b ∷ front) block rest j offset w f p q r s t =
      Memᴰ.append_right (wanted_block local peer file j offset b) (entry_in front block rest (j + 1) (offset + b.size) w f p (q ∙ omega arith) (r ∙ omega arith) s t)

-- an entry for a block of one of some files
pub record Asked (local : List File) (peers : List (List File)) (file : ℕ) (fs : List File) (w : Wanted) : Type 0 where
  pub before : List File
  pub highest : File
  pub after : List File
  pub split : fs ≡ before ++ (highest ∷ after)
  pub entry : Entry local (peer_from 1 peers highest.name) (file + length before) 0 0 (listed highest) w

module _ (local : List File) (peers : List (List File)) where
  pub asked_of : (fs : List File) (file : ℕ) (w : Wanted) → Memᴰ w (wanted_files local peers file fs) → Asked local peers file fs w
  asked_of [] file w m = absurd (Memᴰ.not-nil m)
  asked_of (f ∷ fs) file w m = go (Memᴰ.append_cases (wanted_blocks local (peer_from 1 peers f.name) file 0 0 (listed f)) m) (λ k. asked_of fs (file + 1) w k)
    where
      go : Memᴰ w (wanted_blocks local (peer_from 1 peers f.name) file 0 0 (listed f)) ⊎ Memᴰ w (wanted_files local peers (file + 1) fs)
          → (Memᴰ w (wanted_files local peers (file + 1) fs) → Asked local peers (file + 1) fs w) → Asked local peers file (f ∷ fs) w
      go (inl k) ih =
          let none : file ≡ file + 0 = omega arith in
          record {
            before = [];
            highest = f;
            after = fs;
            split = refl;
            entry = subst (λ (n : ℕ). Entry local (peer_from 1 peers f.name) n 0 0 (listed f) w) none (entry_of local (peer_from 1 peers f.name) file (listed f) 0 0 w k);
          }
      go (inr k) ih =
          let a = ih k in
          let more : file + 1 + length a.before ≡ file + suc (length a.before) = omega arith in
          record {
            before = f ∷ a.before;
            highest = a.highest;
            after = a.after;
            split = ap (λ (x : List File). f ∷ x) a.split;
            entry = subst (λ (n : ℕ). Entry local (peer_from 1 peers a.highest.name) n 0 0 (listed a.highest) w) more a.entry;
          }

  entry_within : (f : File) (file : ℕ) (w : Wanted) → Entry local (peer_from 1 peers f.name) file 0 0 (listed f) w → Memᴰ w (wanted_blocks local (peer_from 1 peers f.name) file 0 0 (listed f))
  entry_within f file w e =
      subst (λ (l : List Block). Memᴰ w (wanted_blocks local (peer_from 1 peers f.name) file 0 0 l)) (sym e.split)
      (entry_in local (peer_from 1 peers f.name) file e.front e.block e.rest 0 0 w e.free e.file_is e.block_is e.offset_is e.size_is e.peer_is)

  asked_at : (before : List File) (f : File) (after : List File) (file : ℕ) (w : Wanted) → Entry local (peer_from 1 peers f.name) (file + length before) 0 0 (listed f) w → Memᴰ w (wanted_files local peers file (before ++ (f ∷ after)))
  asked_at [] f after file w e =
      let none : file + 0 ≡ file = omega arith in
      Memᴰ.append_left (wanted_files local peers (file + 1) after) (entry_within f file w (subst (λ (n : ℕ). Entry local (peer_from 1 peers f.name) n 0 0 (listed f) w) none e))
  asked_at (g ∷ before) f after file w e =
      let more : file + suc (length before) ≡ file + 1 + length before = omega arith in
      Memᴰ.append_right (wanted_blocks local (peer_from 1 peers g.name) file 0 0 (listed g))
      (asked_at before f after (file + 1) w (subst (λ (n : ℕ). Entry local (peer_from 1 peers f.name) n 0 0 (listed f) w) more e))

  pub asked_in_lem : (fs : List File) (file : ℕ) (w : Wanted) → Asked local peers file fs w → Memᴰ w (wanted_files local peers file fs)
  asked_in_lem fs file w a = subst (λ (l : List File). Memᴰ w (wanted_files local peers file l)) (sym a.split) (asked_at a.before a.highest a.after file w a.entry)

  -- the request list holds these entries
  pub request_of : (w : Wanted) → Memᴰ w (request_list local peers) → Asked local peers 0 (merged_of (local ∷ peers)) w
  unfolding request_list
  request_of w m = asked_of (merged_of (local ∷ peers)) 0 w m

  -- and all of them
  pub request_in_lem : (w : Wanted) → Asked local peers 0 (merged_of (local ∷ peers)) w → Memᴰ w (request_list local peers)
  unfolding request_list
  request_in_lem w a = asked_in_lem (merged_of (local ∷ peers)) 0 w a

-- the order: by name, which the file numbers count, then by block

order_append : (a b : List Wanted) → Ordered a → Ordered b → ((v w : Wanted) → Memᴰ v a → Memᴰ w b → Earlier v w) → Ordered (a ++ b)
order_append [] b p q h = q
order_append (v ∷ a) b p q h = (
  λ w m. ⊎_elim (λ k. p.0 w k) (λ k. h v w (Memᴰ.head refl) k) (Memᴰ.append_cases a m),
  order_append a b p.1 q (λ x y m n. h x y (Memᴰ.tail m) n),
)

module _ (local : List File) (peers : List (List File)) where
  block_order : (peer : ℕ → Block → ℕ) (file j offset : ℕ) (b : Block) → Ordered (wanted_block local peer file j offset b)
  block_order peer file j offset b = go (is_held local b)
    where
      w : Wanted
      w = record { file = file; block = j; offset = offset; size = b.size; peer = peer offset b }

      go : (v : Bool) → Ordered (cond v [] (w ∷ []))
      go true = tt
      go false = (λ v m. absurd (Memᴰ.not-nil m), tt)

  blocks_order : (peer : ℕ → Block → ℕ) (file j offset : ℕ) (l : List Block) → Ordered (wanted_blocks local peer file j offset l)
  blocks_order peer file j offset [] = tt
  blocks_order peer file j offset (b ∷ l) =
      order_append (wanted_block local peer file j offset b) (wanted_blocks local peer file (j + 1) (offset + b.size) l) (block_order peer file j offset b) (blocks_order peer file (j + 1) (offset + b.size) l)
      (λ v w m n.
      let p = (one_of local peer file j offset b v (is_held local b) refl m).1 in
      let e = entry_of local peer file l (j + 1) (offset + b.size) w n in
      inr (ap (λ (x : Wanted). x.file) p ∙ sym e.file_is, omega (arith, ap (λ (x : Wanted). x.block) p, e.block_is)))

  files_order : (file : ℕ) (fs : List File) → Ordered (wanted_files local peers file fs)
  files_order file [] = tt
  files_order file (f ∷ fs) =
      order_append (wanted_blocks local (peer_from 1 peers f.name) file 0 0 (listed f)) (wanted_files local peers (file + 1) fs) (blocks_order (peer_from 1 peers f.name) file 0 0 (listed f)) (files_order (file + 1) fs)
      (λ v w m n. inl (omega (arith, (entry_of local (peer_from 1 peers f.name) file (listed f) 0 0 v m).file_is, (asked_of local peers fs (file + 1) w n).entry.file_is)))

  pub request_order : Ordered (request_list local peers)
  unfolding request_list
  request_order = files_order 0 (merged_of (local ∷ peers))

-- the peer: the lowest that lists the block there

-- peer k of those counted from `first` lists it, and none before it does
pub record Lowest (first : ℕ) (peers : List (List File)) (name : List ℕ) (offset : ℕ) (b : Block) (k : ℕ) : Type 0 where
  pub number : ℕ
  pub is : k ≡ first + number
  pub small : number < length peers
  pub lists : lists_there (get_or peers number []) name offset b ≡ true
  pub lowest : (m : ℕ) → m < number → lists_there (get_or peers m []) name offset b ≡ false

lowest_later : {first : ℕ} {p : List File} {ps : List (List File)} {name : List ℕ} {offset : ℕ} {b : Block} {k : ℕ} → lists_there p name offset b ≡ false → Lowest (first + 1) ps name offset b k → Lowest first (p ∷ ps) name offset b k
lowest_later {first} {p} {ps} {name} {offset} {b} {k} q r =
    record { number = suc r.number; is = omega (arith, r.is); small = omega (arith, r.small); lists = r.lists; lowest = below }
  where
    below : (i : ℕ) → i < suc r.number → lists_there (get_or (p ∷ ps) i []) name offset b ≡ false
    below zero l = q
    below (suc i) l = r.lowest i (omega arith)

lowest_from_lem : (ps : List (List File)) (first : ℕ) (name : List ℕ) (offset : ℕ) (b : Block) (m : ℕ) → m < length ps → lists_there (get_or ps m []) name offset b ≡ true → Lowest first ps name offset b (peer_from first ps name offset b)
lowest_from_lem [] first name offset b m h e = absurd (omega arith)
lowest_from_lem (p ∷ ps) first name offset b m h e = go (lists_there p name offset b) refl m h e (λ i l q. lowest_from_lem ps (first + 1) name offset b i l q)
  where
    go : (v : Bool) → lists_there p name offset b ≡ v → (m : ℕ) → m < length (p ∷ ps) → lists_there (get_or (p ∷ ps) m []) name offset b ≡ true
        → ((i : ℕ) → i < length ps → lists_there (get_or ps i []) name offset b ≡ true → Lowest (first + 1) ps name offset b (peer_from (first + 1) ps name offset b))
        → Lowest first (p ∷ ps) name offset b (cond v first (peer_from (first + 1) ps name offset b))
    go true q m h e ih = record { number = 0; is = omega arith; small = omega arith; lists = q; lowest = λ i l. absurd (omega arith) }
    go false q zero h e ih = let z : ◌≡◌ {A = Bool} false true = sym q ∙ e in let y : ◌≡◌ {A = ℕ} 0 1 = cc in absurd (omega arith)
    go false q (suc m) h e ih = lowest_later q (ih m (omega arith) e)

there_itself : (front : List Block) (b : Block) (rest : List Block) (from offset : ℕ) → offset ≡ from + total_size front → has_there from (front ++ (b ∷ rest)) offset b ≡ true
there_itself [] b rest from offset e = rw (eq-eqb from offset (omega arith), same_self b) refl
there_itself (c ∷ front) b rest from offset e = rw (there_itself front b rest (from + c.size) offset (omega arith)) (or_true (eqb from offset && is_same c b))

lists_by_record : (fs : List File) (f : File) (offset : ℕ) (b : Block) → Rising fs → f ∈ fs → lists_there fs f.name offset b ≡ has_there 0 (listed f) offset b
lists_by_record [] f offset b r m = absurd (Memᴰ.not-nil m)
lists_by_record (g ∷ fs) f offset b r m = go (Memᴰ.cases_cons m) (λ k. lists_by_record fs f offset b r.1 k)
  where
    go : (f ≡ g) ⊎ (f ∈ fs) → (f ∈ fs → lists_there fs f.name offset b ≡ has_there 0 (listed f) offset b) → lists_there (g ∷ fs) f.name offset b ≡ has_there 0 (listed f) offset b
    go (inl q) ih = rw (q, same_equal g.name) refl
    go (inr k) ih = rw (above_all g.name fs r.0 r.1 f k) (ih k)

-- an entry names a peer, and the lowest one, that lists its block there
pub request_peer : (local : List File) (peers : List (List File)) → ((k : ℕ) → k < length peers → Rising (get_or peers k [])) → (w : Wanted) (a : Asked local peers 0 (merged_of (local ∷ peers)) w)
    → Lowest 1 peers a.highest.name w.offset a.entry.block w.peer
request_peer local peers r w a =
    subst (Lowest 1 peers a.highest.name w.offset a.entry.block) (sym a.entry.peer_is)
    (⊎_elim (λ m. absurd (not_local m)) (λ m. from_peer (in_joined peers f m)) (Memᴰ.append_cases local ((merged_highest (local ∷ peers)).from f among)))
  where
    f : File
    f = a.highest

    among : f ∈ merged_of (local ∷ peers)
    among = subst (λ (l : List File). f ∈ l) (sym a.split) (Memᴰ.append_right a.before (Memᴰ.head refl))

    not_local : f ∈ local → ⊥
    not_local m =
        let has : has_block (listed f) a.entry.block ≡ true = ap (λ (l : List Block). has_block l a.entry.block) a.entry.split ∙ has_itself a.entry.front a.entry.block a.entry.rest in
        let z : ◌≡◌ {A = Bool} false true = sym a.entry.free ∙ held_by_record local f a.entry.block m has in
        let y : ◌≡◌ {A = ℕ} 0 1 = cc in
        omega arith

    from_peer : Within peers f → Lowest 1 peers f.name w.offset a.entry.block (peer_from 1 peers f.name w.offset a.entry.block)
    from_peer i =
        lowest_from_lem peers 1 f.name w.offset a.entry.block i.number i.small
        (lists_by_record (get_or peers i.number []) f w.offset a.entry.block (r i.number i.small) i.there
        ∙ ap (λ (l : List Block). has_there 0 l w.offset a.entry.block) a.entry.split
        ∙ there_itself a.entry.front a.entry.block a.entry.rest 0 w.offset a.entry.offset_is)
