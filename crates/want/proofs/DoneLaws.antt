-- How far the list has come: the blocks done, and those of the records left, make up the request list.
use Rattle.std.specs.Prelude.{Some, None}
use Rattle.std.specs.declared.option.Option.{Option}
use Prim.Native.Nat.{ℕ, zero, suc, ◌+◌, ◌-◌, ◌*◌, ◌≤◌, ◌<◌}
use mathlib.Core.List.{List, [], ◌∷◌, ◌++◌, map, append_assoc, append-nil}
use mathlib.Core.Path.{◌≡◌, refl, sym, ap, subst, ◌∙◌}
use mathlib.Core.Bool.{Bool, true, false, cond}
use native.Mathlib.Omega.{arith}
use borrow.Author.Tests.{eqb-true}
use lib.ListN.{length, get_or, drop, length-append}
use lib.Dec.{eqb}
use Rattle.record.specs.Block.{Block}
use Rattle.record.specs.File.{File}
use Rattle.record.specs.Outline.{outline_of}
use Rattle.record.specs.declared.outline.RecordFields.{RecordFields}
use Rattle.order.specs.Order.{part}
use Rattle.table.specs.Table.{is_good, records}
use Rattle.table.proofs.TableLaws.{good_table}
use Rattle.merge.specs.Merged.{merged_of}
use Rattle.merge.proofs.HighestLaws.{◌∈◌}
use Rattle.want.specs.Listing.{listed}
use Rattle.want.specs.Steps.Blocks.{blocks_from, listed_count}
use Rattle.want.specs.Wanted.{peer_from, wanted_blocks, wanted_files, request_list}
use Rattle.want.specs.Steps.Places.{table_at, place_at, lowest_from, places_after, peer_at, starts, sought_of, wanted_count, Idle, Begun, Five, list_of}
use Rattle.want.specs.Steps.Head.{AllStand, Headed}
use Rattle.want.specs.declared.list.Wanted.{Wanted}
use Rattle.want.proofs.PlaceLaws.{element}
use Rattle.want.proofs.CountLaws.{wanted_count_lem, count_few, length_from, same_peers}
use Rattle.want.proofs.HeadLaws.{without}
use Rattle.want.proofs.SideLaws.{peers_total, total, total_rises, peers_rise, Walk, walk_starts, Turn, turn, turns_end, turn_merges, turn_name, turn_blocks, turn_within, turn_next, turn_among, turn_grows, turn_passes, turn_peers}
use Rattle.want.proofs.HeldLaws.{own_held}
use Rattle.want.proofs.RankLaws.{headed_lowest}
use Rattle.want.proofs.TurnLaws.{headed_after}

abbrev pub local_of : List (List ℕ) → List File
local_of ts = records (table_at ts 0)

abbrev pub peers_of : List (List ℕ) → List (List File)
peers_of ts = map records (drop 1 ts)

pub record Done (ts : List (List ℕ)) (ps : List ℕ) (file : ℕ) (done : List Wanted) : Type 0 where
  pub ls : List (List File)
  pub walk : Walk ts ps ls
  pub follows : done ++ wanted_files (local_of ts) (peers_of ts) file (merged_of ls) ≡ list_of ts
  pub few : file ≤ total ps
  pub room : length done * 40 ≤ peers_total ps

split_records : (ts : List (List ℕ)) → length ts ≡ 5 → map records ts ≡ local_of ts ∷ peers_of ts
split_records [] e = let z : ◌≡◌ {A = ℕ} 0 1 = omega arith in absurd (omega arith)
split_records (t ∷ ts) e = refl

done_starts : (ts : List (List ℕ)) → Five ts → Done ts starts 0 []
unfolding request_list
done_starts ts g =
    record {
      ls = map records ts;
      walk = walk_starts ts g;
      follows = ap (λ (l : List (List File)). wanted_files (local_of ts) (peers_of ts) 0 (merged_of l)) (split_records ts g.many);
      few = omega arith;
      room = omega arith;
    }

pub table_short : {ts : List (List ℕ)} → Five ts → (k : ℕ) → k < 5 → length (table_at ts k) ≤ 65536
table_short {ts} g k s = (good_table (table_at ts k) (g.bytes k s) (g.good k s)).short

-- no place is beyond its table
module _ {ts : List (List ℕ)} {ps : List ℕ} {ls : List (List File)} (g : Five ts) (w : Walk ts ps ls) where
  pub total_small : total ps ≤ 327680
  total_small = omega (arith, one 0 (omega arith), one 1 (omega arith), one 2 (omega arith), one 3 (omega arith), one 4 (omega arith))
    where
      one : (k : ℕ) → k < 5 → place_at ps k ≤ 65536
      one k s = omega (arith, (w.here k s).inside, table_short g k s)

module _ {ts : List (List ℕ)} {ps : List ℕ} {file : ℕ} {done : List Wanted} (d : Done ts ps file done) where
  -- records stand at all places
  pub done_stand : AllStand ts ps
  done_stand k s = (get_or d.ls k [], d.walk.here k s)

  -- nothing is left
  pub done_all : {k : ℕ} {x : Option RecordFields} → k ≡ lowest_from ts ps 0 1 4 → x ≡ outline_of (table_at ts k) (place_at ps k) → x ≡ None → done ≡ list_of ts
  done_all e y g =
      sym (append-nil done) ∙ ap (λ (l : List File). done ++ wanted_files (local_of ts) (peers_of ts) file l) (sym (turns_end d.walk e refl y g)) ∙ d.follows

  -- the turn of the record that is next
  module _ (g : Five ts) {k : ℕ} {x : Option RecordFields} {f : RecordFields} (low : k ≡ lowest_from ts ps 0 1 4) (y : x ≡ outline_of (table_at ts k) (place_at ps k)) (is : x ≡ Some f) where
    pub this : Turn ts ps d.ls k (table_at ts k) f
    this = turn d.walk low refl y is

    abbrev name_of : List ℕ
    name_of = part (table_at ts k) f.name f.stop

    -- its blocks
    abbrev pub blocks_of : List Block
    blocks_of = blocks_from (table_at ts k) f.first 0 (sought_of k f)

    -- the entries for them
    abbrev pub these : List Wanted
    these = wanted_blocks (local_of ts) (peer_at ts ps name_of) file 0 0 blocks_of

    pub blocks_within : f.first + sought_of k f * 40 ≤ length (table_at ts k)
    blocks_within = omega (arith, turn_within d.walk this, sought_few (eqb k 0) (listed_count f))
      where
        sought_few : (b : Bool) (n : ℕ) → cond b 0 n ≤ n
        sought_few true n = omega arith
        sought_few false n = omega arith

    own_blocks : (b : Bool) → eqb k 0 ≡ b
        → wanted_blocks (local_of ts) (peer_at ts ps name_of) file 0 0 (blocks_from (table_at ts k) f.first 0 (cond b 0 (listed_count f)))
        ≡ wanted_blocks (local_of ts) (peer_at ts ps name_of) file 0 0 (listed this.head)
    own_blocks true e =
        sym (own_held (local_of ts) this.head (subst (λ (i : ℕ). this.head ∈ records (table_at ts i)) (eqb-true k 0 e) (turn_among d.walk this)) (peer_at ts ps name_of) file 0 0)
    own_blocks false e = ap (wanted_blocks (local_of ts) (peer_at ts ps name_of) file 0 0) (turn_blocks d.walk this)

    these_are : these ≡ wanted_blocks (local_of ts) (peer_from 1 (peers_of ts) this.head.name) file 0 0 (listed this.head)
    these_are =
        own_blocks (eqb k 0) refl
        ∙ ap (λ (m : List ℕ). wanted_blocks (local_of ts) (peer_at ts ps m) file 0 0 (listed this.head)) (turn_name d.walk this)
        ∙ same_peers (local_of ts) (peer_at ts ps this.head.name) (peer_from 1 (peers_of ts) this.head.name) (turn_peers d.walk this (four ts g.many)) file 0 0 (listed this.head)
      where
        four : (l : List (List ℕ)) → length l ≡ 5 → length (drop 1 l) ≡ 4
        four [] e = let z : ◌≡◌ {A = ℕ} 0 1 = omega arith in absurd (omega arith)
        four (t ∷ l) e = omega arith

    -- what comes after them
    abbrev pub later : List Wanted
    later = wanted_files (local_of ts) (peers_of ts) (file + 1) (merged_of (map (without this.head) d.ls))

    -- the list goes on with them
    pub done_begins : done ++ (these ++ later) ≡ list_of ts
    done_begins =
        ap (λ (l : List Wanted). done ++ (l ++ later)) these_are
        ∙ ap (λ (l : List File). done ++ wanted_files (local_of ts) (peers_of ts) file l) (sym (turn_merges d.walk this))
        ∙ d.follows

    pub few_here : length these ≤ sought_of k f
    few_here = omega (arith, wanted_count_lem (local_of ts) (peer_at ts ps name_of) file 0 0 blocks_of, count_few (local_of ts) blocks_of, length_from (table_at ts k) f.first 0 (sought_of k f))

    module _ {qs : List ℕ} (e : qs ≡ places_after ts ps name_of) where
      after : qs ≡ places_after ts ps this.head.name
      after = e ∙ ap (places_after ts ps) (turn_name d.walk this)

      grows : (m : ℕ) → m < 5 → place_at ps m ≤ place_at qs m
      grows = turn_grows d.walk this qs after

      rises : total ps + 24 ≤ total qs
      rises = total_rises ps qs 24 grows k this.small (omega (arith, turn_passes d.walk this qs after))

      peers_pass : (b : Bool) → eqb k 0 ≡ b → peers_total ps + cond b 0 (listed_count f) * 40 ≤ peers_total qs
      peers_pass true q = omega (arith, grows 1 (omega arith), grows 2 (omega arith), grows 3 (omega arith), grows 4 (omega arith))
      peers_pass false q = peers_rise ps qs (listed_count f * 40) grows k this.small (positive k q) (omega (arith, turn_passes d.walk this qs after))
        where
          positive : (i : ℕ) → eqb i 0 ≡ false → 0 < i
          positive zero r = cc
          positive (suc i) r = omega arith

      pub done_turn : Done ts qs (file + 1) (done ++ these)
      done_turn =
          record {
            ls = map (without this.head) d.ls;
            walk = turn_next d.walk this qs after;
            follows = append_assoc done these later ∙ done_begins;
            few = omega (arith, d.few, rises);
            room = omega (arith, d.room, few_here, peers_pass (eqb k 0) refl, length-append done these);
          }

      -- less is left to walk
      pub done_less : 327680 - total qs < 327680 - total ps
      done_less = omega (arith, rises, total_small g (turn_next d.walk this qs after))

-- the records at the front that have no block that may be missing

idle_turn : {ts : List (List ℕ)} {ps qs : List ℕ} {file : ℕ} → Five ts → Done ts ps file [] → Idle ts ps qs → Done ts qs (file + 1) []
idle_turn {ts} {ps} {qs} {file} g d i = subst (λ (l : List Wanted). Done ts qs (file + 1) l) none (done_turn d g i.lowest refl i.outline_is i.after)
  where
    none : these d g i.lowest refl i.outline_is ≡ []
    none = ap (λ (n : ℕ). wanted_blocks (local_of ts) (peer_at ts ps (part (table_at ts i.best) i.fields.name i.fields.stop)) file 0 0 (blocks_from (table_at ts i.best) i.fields.first 0 n)) i.none

pub begun_done : (ts : List (List ℕ)) → Five ts → (file : ℕ) (ps : List ℕ) → Begun ts file ps → Done ts ps file []
begun_done ts g zero ps e = subst (λ (qs : List ℕ). Done ts qs 0 []) (sym e) (done_starts ts g)
begun_done ts g (suc file) ps b =
    let one : file + 1 ≡ suc file = omega arith in
    subst (λ (n : ℕ). Done ts ps n []) one (idle_turn g (begun_done ts g file b.0 b.1) b.2)

pub begun_turn : {ts : List (List ℕ)} {ps : List ℕ} (file : ℕ) {best : ℕ} {x : Option RecordFields} {f : RecordFields} {past : List ℕ} → Begun ts file ps → Headed ts ps 5 best x past → x ≡ Some f → sought_of best f ≡ 0 → Begun ts (file + 1) past
begun_turn {ts} {ps} file {best} {x} {f} {past} b h is z =
    let one : suc file ≡ file + 1 = omega arith in
    subst (λ (n : ℕ). Begun ts n past) one
    (ps, b, record { best = best; fields = f; lowest = headed_lowest h; outline_is = sym h.fields_are ∙ is; none = z; after = headed_after h is })

-- how long the list is at most: an entry for each 40 bytes of the peers' tables

abbrev pub peers_length : List (List ℕ) → ℕ
peers_length ts = length (table_at ts 1) + length (table_at ts 2) + length (table_at ts 3) + length (table_at ts 4)

all_room : {ts : List (List ℕ)} → Five ts → (left : ℕ) {ps : List ℕ} {file : ℕ} {done : List Wanted} → Done ts ps file done → 327680 - total ps < left → length (list_of ts) * 40 ≤ peers_length ts
all_room g zero d h = absurd (omega arith)
all_room {ts} g (suc left) {ps} {file} {done} d h = go (outline_of (table_at ts low) (place_at ps low)) refl (λ qs n l e k. all_room g left {ps = qs} {file = n} {done = l} e k)
  where
    low : ℕ
    low = lowest_from ts ps 0 1 4

    go : (x : Option RecordFields) → x ≡ outline_of (table_at ts low) (place_at ps low) → ((qs : List ℕ) (n : ℕ) (l : List Wanted) → Done ts qs n l → 327680 - total qs < left → length (list_of ts) * 40 ≤ peers_length ts)
        → length (list_of ts) * 40 ≤ peers_length ts
    go None e next =
        let one : (k : ℕ) → k < 5 → place_at ps k ≤ length (table_at ts k) = λ k s. (d.walk.here k s).inside in
        omega (arith, ap length (done_all d refl e refl), d.room, one 1 (omega arith), one 2 (omega arith), one 3 (omega arith), one 4 (omega arith))
    go (Some f) e next = next _ _ _ (done_turn d g refl e refl refl) (omega (arith, h, done_less d g refl e refl {qs = places_after ts ps (part (table_at ts low) f.name f.stop)} refl))

pub list_room : {ts : List (List ℕ)} → Five ts → length (list_of ts) * 40 ≤ peers_length ts
list_room {ts} g = all_room g 327681 (done_starts ts g) (omega arith)

-- the local table is good
pub local_good : {A : Type 0} (f : A → List ℕ) (l : List A) (d : A) → f d ≡ [] → Five (map f l) → is_good (f (get_or l 0 d)) ≡ true
local_good f l d e g = ap is_good (element f l 0 d e) ∙ g.good 0 (omega arith)

-- counting: so many are done

pub record Counted (ts : List (List ℕ)) (ps : List ℕ) (n : ℕ) : Type 0 where
  pub file : ℕ
  pub done : List Wanted
  pub so_far : Done ts ps file done
  pub counted : n ≡ length done

pub counted_starts : {ts : List (List ℕ)} {file : ℕ} {ps : List ℕ} → Done ts ps file [] → Counted ts ps 0
counted_starts {ts} {file} d = record { file = file; done = []; so_far = d; counted = refl }

module _ {ts : List (List ℕ)} {ps : List ℕ} {n : ℕ} (g : Five ts) (c : Counted ts ps n) where
  pub counted_small : n ≤ 327680
  counted_small = omega (arith, c.counted, c.so_far.room, total_small g c.so_far.walk)

  module _ {best : ℕ} {x : Option RecordFields} {past : List ℕ} (h : Headed ts ps 5 best x past) where
    pub counted_all : x ≡ None → (n ≡ length (list_of ts)) × (n ≤ 327680)
    counted_all e = (c.counted ∙ ap length (done_all c.so_far (headed_lowest h) h.fields_are e), counted_small)

    module _ {f : RecordFields} (is : x ≡ Some f) {local t : List ℕ} {first count m : ℕ} (z : local ≡ table_at ts 0) (y : t ≡ table_at ts best) (p : first ≡ f.first) (q : count ≡ sought_of best f)
        (r : m ≡ wanted_count (records local) (blocks_from t first 0 count)) where
      counted_here : m ≡ length (these c.so_far g (headed_lowest h) h.fields_are is)
      counted_here =
          r
          ∙ ap (λ (l : List ℕ). wanted_count (records l) (blocks_from t first 0 count)) z
          ∙ ap (λ (l : List ℕ). wanted_count (local_of ts) (blocks_from l first 0 count)) y
          ∙ ap (λ (i : ℕ). wanted_count (local_of ts) (blocks_from (table_at ts best) i 0 count)) p
          ∙ ap (λ (i : ℕ). wanted_count (local_of ts) (blocks_from (table_at ts best) f.first 0 i)) q
          ∙ sym (wanted_count_lem (local_of ts) (peer_at ts ps (part (table_at ts best) f.name f.stop)) c.file 0 0 (blocks_from (table_at ts best) f.first 0 (sought_of best f)))

      pub counted_more : Counted ts past (n + m)
      counted_more =
          record {
            file = c.file + 1;
            done = c.done ++ these c.so_far g (headed_lowest h) h.fields_are is;
            so_far = done_turn c.so_far g (headed_lowest h) h.fields_are is (headed_after h is);
            counted = omega (arith, c.counted, counted_here, length-append c.done (these c.so_far g (headed_lowest h) h.fields_are is));
          }
