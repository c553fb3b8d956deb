-- The runs of the peers, with a mark in each: who lists a block, and that this is who lists it by the records at the places.
use Rattle.std.specs.Prelude.{Some, None}
use Rattle.std.specs.declared.option.Option.{Option}
use Prim.Native.Nat.{ℕ, zero, suc, ◌+◌, ◌≤◌, ◌<◌}
use mathlib.Core.List.{List, [], ◌∷◌, map}
use mathlib.Core.Path.{◌≡◌, refl, sym, ap, subst, ◌∙◌}
use mathlib.Core.Bool.{Bool, true, false, cond}
use native.Mathlib.Omega.{arith}
use native.Mathlib.Decide.{dec_lt}
use borrow.Author.Tests.{eq-eqb, ne_eqb}
use lib.ListN.{length, get_or, set, length-set}
use lib.Seq.{get_or-set_same, get_or-set_other}
use lib.Dec.{eqb}
use Rattle.record.specs.Block.{Block}
use Rattle.record.specs.Outline.{blocks_size, outline_of}
use Rattle.record.specs.declared.outline.RecordFields.{RecordFields}
use Rattle.order.specs.Order.{is_equal, compare_lists, part}
use Rattle.table.specs.Table.{records}
use Rattle.want.specs.Listing.{has_there}
use Rattle.want.specs.Wanted.{wanted_blocks}
use Rattle.want.specs.Steps.Blocks.{blocks_from, listed_count}
use Rattle.want.specs.Steps.Places.{table_at, place_at, past_by, past_name, places_after, lists_by, lists_at, first_of, peer_at}
use Rattle.want.specs.Steps.Runs.{has_run, is_ahead, Marked, mark_of, mark_at, no_run, run_at, run_by, run_from, runs_from, peer_in, Along, InTables, wanted_run}
use Rattle.want.specs.declared.run.Run.{Run}
use Rattle.want.specs.declared.run.Mark.{Mark}
use Rattle.want.proofs.ThereLaws.{outline_inside, outline_rises}
use Rattle.want.proofs.RunLaws.{marked_first, marked_later}
use Rattle.want.proofs.PlaceLaws.{element, first_next, first_none}
use Rattle.want.proofs.SideLaws.{by_five}
use Rattle.want.proofs.CountLaws.{same_peers}

-- marks at the front of all runs

abbrev fronts : List Mark
fronts = mark_of 0 0 ∷ mark_of 0 0 ∷ mark_of 0 0 ∷ mark_of 0 0 ∷ mark_of 0 0 ∷ []

pub along_starts : (ts : List (List ℕ)) (rs : List Run) → InTables ts rs → Along ts rs fronts 0
along_starts ts rs h = record { many = refl; marked = λ k s. subst (λ (m : Mark). Marked (table_at ts k) (run_at rs k) m 0) (sym (front_at k s)) (marked_first 0 (h k s)) }
  where
    front_at : (k : ℕ) → k < 5 → mark_at fronts k ≡ mark_of 0 0
    front_at = by_five (λ k. mark_at fronts k ≡ mark_of 0 0) refl refl refl refl refl

-- a higher offset
pub along_later : {ts : List (List ℕ)} {rs : List Run} {ms : List Mark} {offset later : ℕ} → Along ts rs ms offset → offset ≤ later → Along ts rs ms later
along_later w h = record { many = w.many; marked = λ k s. marked_later (w.marked k s) h }

-- one mark goes along
pub along_set : {ts : List (List ℕ)} {rs : List Run} {ms : List Mark} {offset : ℕ} → Along ts rs ms offset → (k : ℕ) (n : Mark) → k < 5 → Marked (table_at ts k) (run_at rs k) n offset
    → Along ts rs (set ms k n) offset
along_set {ts} {rs} {ms} {offset} w k n h m = record { many = length-set ms k n ∙ w.many; marked = λ i s. go i s (dec_lt i k) (dec_lt k i) }
  where
    other : (i : ℕ) → i < 5 → (i ≡ k → ⊥) → Marked (table_at ts i) (run_at rs i) (mark_at (set ms k n) i) offset
    other i s e = subst (λ (x : Mark). Marked (table_at ts i) (run_at rs i) x offset) (sym (get_or-set_other ms k i n (mark_of 0 0) e)) (w.marked i s)

    go : (i : ℕ) → i < 5 → Dec (i < k) → Dec (k < i) → Marked (table_at ts i) (run_at rs i) (mark_at (set ms k n) i) offset
    go i s (yes l) d = other i s (λ e. omega arith)
    go i s (no l) (yes g) = other i s (λ e. omega arith)
    go i s (no l) (no g) =
        let e : k ≡ i = omega arith in
        subst (λ (j : ℕ). Marked (table_at ts j) (run_at rs j) (mark_at (set ms k n) j) offset) e
        (subst (λ (x : Mark). Marked (table_at ts k) (run_at rs k) x offset) (sym (get_or-set_same ms k n (mark_of 0 0) (omega (arith, w.many)))) m)

-- the turn of peer k, whose table is lent as t
module _ {ts : List (List ℕ)} {rs : List Run} {ms : List Mark} {offset k : ℕ} {t : List ℕ} (w : Along ts rs ms offset) (h : k < 5) (e : t ≡ table_at ts k) where
  pub mark_here : Marked t (run_at rs k) (mark_at ms k) offset
  mark_here = subst (λ (l : List ℕ). Marked l (run_at rs k) (mark_at ms k) offset) (sym e) (w.marked k h)

  module _ {m : Mark} (g : Marked t (run_at rs k) m offset) where
    pub along_turn : Along ts rs (set ms k m) offset
    along_turn = along_set w k m h (subst (λ (l : List ℕ). Marked l (run_at rs k) m offset) e g)

    pub told_here : (b : Block) {r v : Bool} → r ≡ is_ahead t (run_at rs k) m offset b → r ≡ v → has_run (table_at ts k) (run_at rs k) offset b ≡ v
    told_here b q f = ap (λ (l : List ℕ). has_run l (run_at rs k) offset b) (sym e) ∙ g.told offset b (omega arith) ∙ sym q ∙ f

-- the blocks that the record at a place lists, by the outline that was given

module _ (t : List ℕ) (at past : ℕ) where
  pub run_none : at ≡ past → no_run ≡ run_from t at past
  unfolding run_from
  run_none e = rw (eq-eqb at past e) refl

  pub run_by_lem : (at ≡ past → ⊥) → {x y : Option RecordFields} → x ≡ outline_of t at → x ≡ y → run_by y ≡ run_from t at past
  unfolding run_from
  run_by_lem n e g = rw (ne_eqb at past n) (ap run_by (sym g ∙ e))

-- in a table that is lent
pub run_in : {A : Type 0} (f : A → List ℕ) (l : List A) (d : A) → f d ≡ [] → (ps past : List ℕ) (k : ℕ) {r : Run} → r ≡ run_from (f (get_or l k d)) (place_at ps k) (place_at past k)
    → r ≡ run_from (table_at (map f l) k) (place_at ps k) (place_at past k)
run_in f l d z ps past k e = e ∙ ap (λ (t : List ℕ). run_from t (place_at ps k) (place_at past k)) (element f l k d z)

pub five_runs : {a b c d e v w x y z : Run} → a ≡ v → b ≡ w → c ≡ x → d ≡ y → e ≡ z → (a ∷ b ∷ c ∷ d ∷ e ∷ []) ≡ (v ∷ w ∷ x ∷ y ∷ z ∷ [])
five_runs {a} {b} {c} {d} {e} {v} {w} {x} {y} {z} p q r s t = cc

-- the runs are within the tables

run_inside : (t : List ℕ) (at past : ℕ) → (run_from t at past).first + blocks_size (run_from t at past).count ≤ length t
unfolding run_from
run_inside t at past = go (eqb at past) (outline_of t at) refl
  where
    go : (b : Bool) (x : Option RecordFields) → x ≡ outline_of t at → (cond b no_run (run_by x)).first + blocks_size (cond b no_run (run_by x)).count ≤ length t
    go true x e = omega arith
    go false None e = omega arith
    go false (Some f) e = outline_inside t at f e refl

pub runs_inside : (ts : List (List ℕ)) (ps past : List ℕ) {rs : List Run} → rs ≡ runs_from ts ps past → InTables ts rs
runs_inside ts ps past e =
    subst (InTables ts) (sym e)
    (by_five (λ k. (run_at (runs_from ts ps past) k).first + blocks_size (run_at (runs_from ts ps past) k).count ≤ length (table_at ts k))
    (omega arith)
    (run_inside (table_at ts 1) (place_at ps 1) (place_at past 1))
    (run_inside (table_at ts 2) (place_at ps 2) (place_at past 2))
    (run_inside (table_at ts 3) (place_at ps 3) (place_at past 3))
    (run_inside (table_at ts 4) (place_at ps 4) (place_at past 4)))

-- the entries, in a table that is lent
pub run_lent : (ts : List (List ℕ)) {rs qs : List Run} → rs ≡ qs → (file : ℕ) {t s : List ℕ} → t ≡ s → (first count : ℕ) → wanted_run ts rs file 0 0 t first count ≡ wanted_run ts qs file 0 0 s first count
run_lent ts {rs} {qs} e file {t} {s} z first count = ap (λ (l : List Run). wanted_run ts l file 0 0 t first count) e ∙ ap (λ (l : List ℕ). wanted_run ts qs file 0 0 l first count) z

-- where a table goes on past a record of a name, its run is what it lists under that name
run_lists : (name t : List ℕ) (at : ℕ) (offset : ℕ) (b : Block) → has_run t (run_from t at (past_name name t at)) offset b ≡ lists_at t at name offset b
unfolding run_from past_name lists_at
run_lists name t at offset b = go (outline_of t at) refl
  where
    by_name_lem : (f : RecordFields) → at < f.past → (v : Bool)
        → has_run t (cond (eqb at (cond v f.past at)) no_run (run_by (Some f))) offset b ≡ cond v (has_there 0 (blocks_from t f.first 0 (listed_count f)) offset b) false
    by_name_lem f h true = rw (ne_eqb at f.past (λ e. omega arith)) refl
    by_name_lem f h false = rw (eq-eqb at at refl) refl

    go : (x : Option RecordFields) → outline_of t at ≡ x → has_run t (cond (eqb at (past_by name t at x)) no_run (run_by x)) offset b ≡ lists_by t name offset b x
    go None e = rw (eq-eqb at at refl) refl
    go (Some f) e = by_name_lem f (outline_rises t at f e) (is_equal (compare_lists (part t f.name f.stop) name))

first_same : (is js : ℕ → Bool) (k left : ℕ) → ((i : ℕ) → k ≤ i → i < k + left → is i ≡ js i) → first_of is k left ≡ first_of js k left
first_same is js k zero h = first_none is k ∙ sym (first_none js k)
first_same is js k (suc left) h =
    first_next is k left
    ∙ ap (λ (v : Bool). cond v k (first_of is (k + 1) left)) (h k (omega arith) (omega arith))
    ∙ ap (λ (n : ℕ). cond (js k) k n) (first_same is js (k + 1) left (λ i p q. h i (omega arith) (omega arith)))
    ∙ sym (first_next js k left)

module _ (ts : List (List ℕ)) (ps name : List ℕ) {past : List ℕ} (e : past ≡ places_after ts ps name) where
  run_of : (k : ℕ) → 1 ≤ k → k < 5 → (offset : ℕ) (b : Block) → has_run (table_at ts k) (run_at (runs_from ts ps (places_after ts ps name)) k) offset b ≡ lists_at (table_at ts k) (place_at ps k) name offset b
  run_of k l s offset b =
      by_five (λ i. 1 ≤ i → has_run (table_at ts i) (run_at (runs_from ts ps (places_after ts ps name)) i) offset b ≡ lists_at (table_at ts i) (place_at ps i) name offset b)
      (λ z. absurd (omega arith))
      (λ z. run_lists name (table_at ts 1) (place_at ps 1) offset b)
      (λ z. run_lists name (table_at ts 2) (place_at ps 2) offset b)
      (λ z. run_lists name (table_at ts 3) (place_at ps 3) offset b)
      (λ z. run_lists name (table_at ts 4) (place_at ps 4) offset b)
      k s l

  peer_same : (offset : ℕ) (b : Block) → peer_in ts (runs_from ts ps past) offset b ≡ peer_at ts ps name offset b
  peer_same offset b =
      ap (λ (qs : List ℕ). peer_in ts (runs_from ts ps qs) offset b) e
      ∙ first_same (λ k. has_run (table_at ts k) (run_at (runs_from ts ps (places_after ts ps name)) k) offset b) (λ k. lists_at (table_at ts k) (place_at ps k) name offset b) 1 4
      (λ i p q. run_of i p (omega arith) offset b)

  -- the entries go by what the peers list under the name
  pub run_wanted : (file : ℕ) (t : List ℕ) {first at count n : ℕ} → first ≡ at → count ≡ n
      → wanted_run ts (runs_from ts ps past) file 0 0 t first count ≡ wanted_blocks (records (table_at ts 0)) (peer_at ts ps name) file 0 0 (blocks_from t at 0 n)
  run_wanted file t {first} {at} {count} {n} z q =
      ap (λ (i : ℕ). wanted_run ts (runs_from ts ps past) file 0 0 t i count) z
      ∙ ap (wanted_run ts (runs_from ts ps past) file 0 0 t at) q
      ∙ same_peers (records (table_at ts 0)) (peer_in ts (runs_from ts ps past)) (peer_at ts ps name) peer_same file 0 0 (blocks_from t at 0 n)
