-- Fetching ends: once everything has arrived, nothing is asked for, and merging again changes no byte.
use Prim.Native.Nat.{ℕ, suc, ◌≤◌}
use mathlib.Core.List.{List, [], ◌∷◌, ◌++◌, map, map-append, append-nil, Memᴰ}
use mathlib.Core.Path.{◌≡◌, refl, sym, ap, subst, ◌∙◌}
use mathlib.Core.Logic.{⊎_elim}
use mathlib.Core.Bool.{true}
use native.Mathlib.Omega.{arith}
use borrow.Author.Tests.{le-leb}
use lib.ListN.{length, get_or, length-append}
use Rattle.xdr.specs.Number.{IsBytes}
use Rattle.xdr.specs.Filling.{Outcome, gives, in_room}
use Rattle.record.specs.Block.{Block}
use Rattle.record.specs.File.{File}
use Rattle.record.proofs.RisingLaws.{both_true}
use Rattle.table.specs.Limits.{records_limit, bytes_limit}
use Rattle.table.specs.Table.{is_good, all_good, is_within, records, table_of, resulting_table}
use Rattle.table.proofs.TableLaws.{GoodTable, good_table, table_good, records_of, result_within}
use Rattle.merge.specs.Merged.{merged_of}
use Rattle.merge.specs.Highest.{joined, Highest}
use Rattle.merge.specs.Answer.{merged_records, merge_outcome}
use Rattle.merge.proofs.HighestLaws.{AllOK, Within, itself as covered, merged_highest, highest_same}
use Rattle.merge.proofs.MergeLaws.{all_ok, merged_ok, merged_one, merged_same, merged_origins, merged_good, outcome_by_origins, merge_gave}
use Rattle.want.specs.Listing.{listed}
use Rattle.want.specs.Wanted.{wanted_bytes, list_bytes, request_outcome}
use Rattle.want.specs.declared.list.Wanted.{Wanted}
use Rattle.want.proofs.EntryLaws.{wanted_bytes_lem}
use Rattle.promises.specs.Memory.{Memory, Region, bytes_in}
use Rattle.promises.specs.Merges.{Slice, Action, start, run, AllAllowed, HoldsBytes, SameTables}
use Rattle.promises.specs.RequestList.{Missing, ExactList}
use Rattle.promises.specs.Arrived.{MadeOf, itself, merged, AreAmong, FetchingEnds, IsNewLocal, FetchingEndsAt, HasPeer, HighestOver, Always}
use Rattle.promises.proofs.Merges.{Origins, good_append, records_append, origins_append, same_joined, at_hand, kept_finally}
use Rattle.promises.proofs.RequestList.{requested}

-- the list of some tables, by the blocks that are missing

module _ (local : List ℕ) (peers : List (List ℕ)) (e : ExactList local peers) where
  abbrev none : Type 0
  none = Missing e.highs (records local) → ⊥

  empty_if_lem : none → request_outcome local peers ≡ gives []
  empty_if_lem h = go e.list refl
    where
      go : (l : List Wanted) → e.list ≡ l → request_outcome local peers ≡ gives []
      go [] q = e.filled ∙ ap (λ (l : List Wanted). gives (list_bytes l)) q
      go (w ∷ ws) q = absurd (h (e.exact.only w (subst (λ (l : List Wanted). Memᴰ w l) (sym q) (mathlib.Core.List.Memᴰ.head refl))).0)

  only_if_lem : request_outcome local peers ≡ gives [] → none
  only_if_lem h m = let a = e.exact.all m in let q : list_bytes e.list ≡ [] = cc (sym e.filled ∙ h) in go e.list a.1 q
    where
      go : {w : Wanted} (l : List Wanted) → Memᴰ w l → list_bytes l ≡ [] → ⊥
      go [] i q = mathlib.Core.List.Memᴰ.not-nil i
      go (v ∷ vs) i q = omega (arith, ap length q, length-append (wanted_bytes v) (list_bytes vs), wanted_bytes_lem v)

  peer_of_lem : (m : Missing e.highs (records local)) → HasPeer (map records peers) m
  peer_of_lem m =
      let a = e.exact.all m in
      record { peer = a.0.peer; from_one = a.2.from_one; to_last = a.2.to_last; lists = a.2.lists; lowest = a.2.lowest }

-- the records of good tables are in order

tables_ok : (ts : List (List ℕ)) → ((k : ℕ) → IsBytes (get_or ts k [])) → all_good ts ≡ true → Origins ts
tables_ok [] b g f i = absurd (mathlib.Core.List.Memᴰ.not-nil i)
tables_ok (t ∷ ts) b g f i =
    let p = both_true (is_good t) (all_good ts) g in
    ⊎_elim (λ k. all_ok (records t) (good_table t (b 0) p.0).valid f k) (λ k. tables_ok ts (λ n. b (suc n)) p.1 f k) (mathlib.Core.List.Memᴰ.append_cases (records t) i)

-- for any good tables, and whatever list their highest records are given as
pub highest_over : (local : List ℕ) (peers : List (List ℕ)) → ((k : ℕ) → IsBytes (get_or (local ∷ peers) k [])) → all_good (local ∷ peers) ≡ true → Always local peers
highest_over local peers b g highs h =
    let e = (requested local peers (λ k. b (suc k))).given g in
    let all : List File = joined (map records (local ∷ peers)) in
    let same : e.highs ≡ highs = highest_same all all e.highs highs (tables_ok (local ∷ peers) b g) e.highest h (λ f i. i) (λ f i. i) in
    subst (HighestOver local peers) same (record { has_peer = peer_of_lem local peers e; empty_if = empty_if_lem local peers e; only_if = only_if_lem local peers e })

-- a table that has the highest records of some tables asks for nothing of them

module _ (t : List ℕ) (origins peers : List (List ℕ)) (is : records t ≡ merged_of (map records origins)) (ok : Origins origins) (has : (u : List ℕ) → Memᴰ u peers → Memᴰ u origins) where
  abbrev all : List File
  all = joined (map records (t ∷ peers))

  peer_in_lem : Within (joined (map records peers)) (joined (map records origins))
  peer_in_lem = same_joined peers origins has

  highest : Highest all (records t)
  highest =
      let h : Highest (joined (map records origins)) (records t) = subst (λ (l : List File). Highest (joined (map records origins)) l) (sym is) (merged_highest (map records origins)) in
      record {
        rising = h.rising;
        from = λ f i. mathlib.Core.List.Memᴰ.append_left (joined (map records peers)) i;
        covers = λ f i. ⊎_elim (λ k. covered (records t) f k) (λ k. h.covers f (peer_in_lem f k)) (mathlib.Core.List.Memᴰ.append_cases (records t) i);
      }

  every_ok : AllOK all
  every_ok f i =
      ⊎_elim (λ k. merged_ok (map records origins) ok f (subst (λ (l : List File). Memᴰ f l) is k)) (λ k. ok f (peer_in_lem f k)) (mathlib.Core.List.Memᴰ.append_cases (records t) i)

  none_missing : (highs : List File) → Highest all highs → Missing highs (records t) → ⊥
  none_missing highs h m =
      let same : highs ≡ records t = highest_same all all highs (records t) every_ok h highest (λ f i. i) (λ f i. i) in
      let here : Memᴰ m.highest (records t) =
      subst (λ (l : List File). Memᴰ m.highest l) (sym m.among ∙ same) (mathlib.Core.List.Memᴰ.append_right m.before (mathlib.Core.List.Memᴰ.head refl)) in
      let block : Memᴰ m.block (listed m.highest) =
      subst (λ (l : List Block). Memᴰ m.block l) (sym m.within) (mathlib.Core.List.Memᴰ.append_right m.front (mathlib.Core.List.Memᴰ.head refl)) in
      m.unheld m.highest here m.block block refl refl

-- good tables, one by one

good_in : (us : List (List ℕ)) (t : List ℕ) → all_good us ≡ true → Memᴰ t us → is_good t ≡ true
good_in [] t g i = absurd (mathlib.Core.List.Memᴰ.not-nil i)
good_in (u ∷ us) t g i =
    let p = both_true (is_good u) (all_good us) g in
    ⊎_elim (λ e. subst (λ (v : List ℕ). is_good v ≡ true) (sym e) p.0) (λ j. good_in us t p.1 j) (mathlib.Core.List.Memᴰ.cases_cons i)

good_all : (ts us : List (List ℕ)) → all_good us ≡ true → ((t : List ℕ) → Memᴰ t ts → Memᴰ t us) → all_good ts ≡ true
good_all [] us g h = refl
good_all (t ∷ ts) us g h = rw (good_in us t g (h t (mathlib.Core.List.Memᴰ.head refl))) (good_all ts us g (λ u i. h u (mathlib.Core.List.Memᴰ.tail i)))

within_limits : (t : List ℕ) (fs : List File) → GoodTable t fs → resulting_table fs ≡ gives t
within_limits t fs g =
    let short : length (table_of fs) ≤ bytes_limit = subst (λ (l : List ℕ). length l ≤ bytes_limit) g.is g.short in
    result_within fs (simp (le-leb (length fs) records_limit g.few, le-leb (length (table_of fs)) bytes_limit short)) ∙ ap gives (sym g.is)

-- what is known of a table that was made of others

record Made (t : List ℕ) (origins : List (List ℕ)) : Type 0 where
  ok : Origins origins
  good : all_good origins ≡ true
  table : GoodTable t (merged_of (map records origins))

made : {t : List ℕ} {origins : List (List ℕ)} → MadeOf t origins → Made t origins
made (itself t b g) =
    let w = good_table t b g in
    let fs = records t in
    record { ok = subst AllOK (sym (append-nil fs)) (all_ok fs w.valid); good = rw g refl; table = subst (λ (l : List File). GoodTable t l) (sym (merged_one fs w.rising)) w }
made (merged a b t of_a of_b x y e) =
    let p = made x in
    let q = made y in
    let os : List (List File) = map records (of_a ++ of_b) in
    let r = merge_gave a b t e in
    let same : merged_records a b ≡ merged_of os =
    merged_origins a b (map records of_a) (map records of_b) (records_of a (merged_of (map records of_a)) p.table) (records_of b (merged_of (map records of_b)) q.table) (records_append of_a of_b p.ok q.ok)
    ∙ ap merged_of (sym (map-append records of_a of_b)) in
    let ok : Origins (of_a ++ of_b) = origins_append of_a of_b p.ok q.ok in
    let fit = subst (λ (fs : List File). is_within (length fs) (length (table_of fs)) ≡ true) same r.within in
    record { ok = ok; good = good_append of_a of_b p.good q.good; table = subst (λ (v : List ℕ). GoodTable v (merged_of os)) (sym (r.is ∙ ap table_of same)) (merged_good os ok fit) }

-- two of them merged, where all that went into both went into the second list too
merged_again : (a b t : List ℕ) (of_a of_b origins : List (List ℕ)) → Made a of_a → Made b of_b → Made t origins → AreAmong (of_a ++ of_b) origins → AreAmong origins (of_a ++ of_b) → merge_outcome a b ≡ gives t
merged_again a b t of_a of_b origins p q m into back =
    outcome_by_origins a b (map records of_a) (map records of_b) (table_good a (merged_of (map records of_a)) p.table) (table_good b (merged_of (map records of_b)) q.table)
    (records_of a (merged_of (map records of_a)) p.table) (records_of b (merged_of (map records of_b)) q.table) (records_append of_a of_b p.ok q.ok)
    ∙ ap (λ (l : List (List File)). resulting_table (merged_of l)) (sym (map-append records of_a of_b))
    ∙ ap resulting_table (merged_same (map records (of_a ++ of_b)) (map records origins) m.ok (same_joined (of_a ++ of_b) origins into) (same_joined origins (of_a ++ of_b) back))
    ∙ within_limits t (merged_of (map records origins)) m.table

module _ (local : List ℕ) (peers : List (List ℕ)) (new : List ℕ) (origins : List (List ℕ)) (m : Made new origins) (same : SameTables origins (local ∷ peers)) where
  nothing : ((k : ℕ) → IsBytes (get_or peers k [])) → request_outcome new peers ≡ gives []
  nothing b =
      let g = good_all peers origins m.good (λ u k. same.1 u (mathlib.Core.List.Memᴰ.tail k)) in
      let e = (requested new peers b).given (rw (table_good new (merged_of (map records origins)) m.table) g) in
      empty_if_lem new peers e
      (none_missing new origins peers (records_of new (merged_of (map records origins)) m.table) m.ok (λ u k. same.1 u (mathlib.Core.List.Memᴰ.tail k)) e.highs e.highest)

  module _ (u : List ℕ) (of : List (List ℕ)) (n : Made u of) (among : AreAmong of (local ∷ peers)) where
    again_first : merge_outcome new u ≡ gives new
    again_first =
        merged_again new u new origins of origins m n m (λ t k. ⊎_elim (λ z. z) (λ z. same.1 t (among t z)) (mathlib.Core.List.Memᴰ.append_cases origins k)) (λ t k. mathlib.Core.List.Memᴰ.append_left of k)

    again_second : merge_outcome u new ≡ gives new
    again_second =
        merged_again u new new of origins origins n m m (λ t k. ⊎_elim (λ z. same.1 t (among t z)) (λ z. z) (mathlib.Core.List.Memᴰ.append_cases of k)) (λ t k. mathlib.Core.List.Memᴰ.append_right of k)

-- in no room or more
no_bytes : {o : Outcome} → o ≡ gives [] → (room : ℕ) → in_room room o ≡ gives []
no_bytes e room = ap (in_room room) e ∙ simp (le-leb 0 room (omega arith))

-- once everything has arrived
pub fetching_ends : (local : List ℕ) (peers : List (List ℕ)) → ((k : ℕ) → IsBytes (get_or peers k [])) → (new : List ℕ) (origins : List (List ℕ)) → MadeOf new origins → SameTables origins (local ∷ peers)
    → FetchingEnds local peers new
fetching_ends local peers b new origins x same =
    let m = made x in
    record {
      empty = no_bytes (nothing local peers new origins m same b);
      as_first = λ u of y among room. ap (in_room room) (again_first local peers new origins m same u of (made y) among);
      as_second = λ u of y among room. ap (in_room room) (again_second local peers new origins m same u of (made y) among);
    }

-- of calls on slices in one memory, refused ones and anybody's writes among them
pub fetching_ends_at : (m : Memory) (rs : List Region) (es : List Action) → HoldsBytes m → AllAllowed (start m rs) es
    → (local : List ℕ) (peers : List (List ℕ)) → ((k : ℕ) → IsBytes (get_or peers k [])) → (x : Slice) → IsNewLocal (run (start m rs) es) local peers x → FetchingEndsAt (run (start m rs) es) local peers x
fetching_ends_at m rs es h a local peers b x new =
    record {
      empty = no_bytes (nothing local peers (bytes_in (run (start m rs) es).memory x.region) x.origins of_x new.2 b);
      as_first = λ y j among room. ap (in_room room) (again_first local peers (bytes_in (run (start m rs) es).memory x.region) x.origins of_x new.2 (bytes_in (run (start m rs) es).memory y.region) y.origins (of_slice y j (good_y y among)) among);
      as_second = λ y j among room. ap (in_room room) (again_second local peers (bytes_in (run (start m rs) es).memory x.region) x.origins of_x new.2 (bytes_in (run (start m rs) es).memory y.region) y.origins (of_slice y j (good_y y among)) among);
    }
  where
    of_slice : (y : Slice) → Memᴰ y (run (start m rs) es).slices → all_good y.origins ≡ true → Made (bytes_in (run (start m rs) es).memory y.region) y.origins
    of_slice y j g = let w = at_hand m rs es h a y j g in record { ok = w.0; good = g; table = w.1 }

    good_x : all_good x.origins ≡ true
    good_x = (kept_finally m rs es h a).results x new.0 new.1

    of_x : Made (bytes_in (run (start m rs) es).memory x.region) x.origins
    of_x = of_slice x new.0 good_x

    good_y : (y : Slice) → AreAmong y.origins (local ∷ peers) → all_good y.origins ≡ true
    good_y y among = good_all y.origins x.origins good_x (λ t k. new.2.1 t (among t k))
