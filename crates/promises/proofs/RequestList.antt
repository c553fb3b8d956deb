-- The request list is exact, each block with its lowest peer.
use Prim.Native.Nat.{ℕ, zero, suc, ◌+◌, ◌≤◌, ◌<◌}
use mathlib.Core.List.{List, [], ◌∷◌, map}
use mathlib.Core.Path.{◌≡◌, refl, subst}
use mathlib.Core.Bool.{true, false}
use native.Mathlib.Omega.{arith}
use lib.ListN.{length, get_or}
use Rattle.xdr.specs.Number.{IsBytes}
use Rattle.xdr.specs.Filling.{gives}
use Rattle.record.specs.Block.{Block, total_size}
use Rattle.record.specs.File.{File}
use Rattle.table.specs.Table.{is_good, all_good, records}
use Rattle.record.proofs.RisingLaws.{Rising, both_true}
use Rattle.table.proofs.TableLaws.{good_table}
use Rattle.merge.specs.Merged.{merged_of}
use Rattle.merge.proofs.HighestLaws.{merged_highest}
use Rattle.want.specs.Listing.{lists_there}
use Rattle.want.specs.Wanted.{peer_from, request_list, list_bytes, request_outcome}
use Rattle.want.specs.declared.list.Wanted.{Wanted}
use Rattle.want.proofs.RequestLaws.{Asked, Lowest, request_of, request_in_lem, request_order, request_peer}
use Rattle.promises.proofs.HeldLaws.{unheld_words, words_unheld}
use Rattle.promises.specs.RequestList.{Missing, Asks, Exact, ExactList, Requested}

module _ (local : List File) (peers : List (List File)) (rises : (k : ℕ) → k < length peers → Rising (get_or peers k [])) where
  abbrev pub highs : List File
  highs = merged_of (local ∷ peers)

  -- the block of an entry, and an entry of a block
  abbrev pub missing : (w : Wanted) → Asked local peers 0 highs w → Missing highs local
  missing w a =
      record {
        before = a.before;
        highest = a.highest;
        after = a.after;
        among = a.split;
        front = a.entry.front;
        block = a.entry.block;
        rest = a.entry.rest;
        within = a.entry.split;
        unheld = unheld_words local a.entry.block a.entry.free;
      }

  -- the peer among all tables, of which the local one is the first
  lists_from : {name : List ℕ} {offset : ℕ} {b : Block} {k : ℕ} (l : Lowest 1 peers name offset b k) → lists_there (get_or (local ∷ peers) k []) name offset b ≡ true
  lists_from {name} {offset} {b} {k} l =
      let e : suc l.number ≡ k = omega (arith, l.is) in
      subst (λ (i : ℕ). lists_there (get_or (local ∷ peers) i []) name offset b ≡ true) e l.lists

  none_lower : {name : List ℕ} {offset : ℕ} {b : Block} {k : ℕ} (l : Lowest 1 peers name offset b k) (j : ℕ) → 1 ≤ j → j < k → lists_there (get_or (local ∷ peers) j []) name offset b ≡ false
  none_lower l zero h i = absurd (omega arith)
  none_lower l (suc j) h i = l.lowest j (omega (arith, l.is))

  asks : (m : Missing highs local) (w : Wanted) → w.file ≡ 0 + length m.before → w.block ≡ 0 + length m.front → w.offset ≡ 0 + total_size m.front → w.size ≡ m.block.size
      → Lowest 1 peers m.highest.name w.offset m.block w.peer → Asks peers m w
  asks m w f n o s p =
      let e : w.offset ≡ total_size m.front = omega (arith, o) in
      let l = subst (λ (k : ℕ). Lowest 1 peers m.highest.name k m.block w.peer) e p in
      record {
        file = omega (arith, f);
        number = omega (arith, n);
        offset = e;
        size = s;
        from_one = omega (arith, l.is);
        to_last = omega (arith, l.is, l.small);
        lists = lists_from l;
        lowest = none_lower l;
      }

  pub asks_for : (w : Wanted) (a : Asked local peers 0 highs w) → Asks peers (missing w a) w
  asks_for w a = let e = a.entry in asks (missing w a) w e.file_is e.block_is e.offset_is e.size_is (request_peer local peers rises w a)

  abbrev entry : Missing highs local → Wanted
  entry m =
      record {
        file = length m.before;
        block = length m.front;
        offset = total_size m.front;
        size = m.block.size;
        peer = peer_from 1 peers m.highest.name (total_size m.front) m.block;
      }

  asked : (m : Missing highs local) → Asked local peers 0 highs (entry m)
  asked m =
      record {
        before = m.before;
        highest = m.highest;
        after = m.after;
        split = m.among;
        entry = record {
          front = m.front;
          block = m.block;
          rest = m.rest;
          split = m.within;
          free = words_unheld local m.block m.unheld;
          file_is = omega arith;
          block_is = omega arith;
          offset_is = omega arith;
          size_is = refl;
          peer_is = refl;
        };
      }

  pub exact_list : Exact highs local peers (request_list local peers)
  unfolding asked
  exact_list =
      record {
        only = λ w i.
            let a = request_of local peers w i in
            (missing w a, asks_for w a);
        all = λ m.
            let w = entry m in
            let e = (asked m).entry in
            (w, request_in_lem local peers w (asked m), asks m w e.file_is e.block_is e.offset_is e.size_is (request_peer local peers rises w (asked m)));
        ordered = request_order local peers;
      }

pub rising_records : (ts : List (List ℕ)) → ((k : ℕ) → IsBytes (get_or ts k [])) → all_good ts ≡ true → (k : ℕ) → k < length (map records ts) → Rising (get_or (map records ts) k [])
rising_records [] b g k h = absurd (omega arith)
rising_records (t ∷ ts) b g zero h = (good_table t (b 0) (both_true (is_good t) (all_good ts) g).0).rising
rising_records (t ∷ ts) b g (suc k) h = rising_records ts (λ i. b (suc i)) (both_true (is_good t) (all_good ts) g).1 k (omega arith)

pub filled_with : (local : List ℕ) (peers : List (List ℕ)) → all_good (local ∷ peers) ≡ true → request_outcome local peers ≡ gives (list_bytes (request_list (records local) (map records peers)))
unfolding request_outcome
filled_with local peers g = rw g refl

-- the list of good tables
abbrev pub exactly : (local : List ℕ) (peers : List (List ℕ)) → ((k : ℕ) → IsBytes (get_or peers k [])) → all_good (local ∷ peers) ≡ true → ExactList local peers
exactly local peers b g =
    record {
      highs = merged_of (map records (local ∷ peers));
      highest = merged_highest (map records (local ∷ peers));
      list = request_list (records local) (map records peers);
      exact = exact_list (records local) (map records peers) (rising_records peers b (both_true (is_good local) (all_good peers) g).1);
      filled = filled_with local peers g;
    }

pub requested : (local : List ℕ) (peers : List (List ℕ)) → ((k : ℕ) → IsBytes (get_or peers k [])) → Requested local peers
unfolding request_outcome
requested local peers b = record { refused = λ g. rw g refl; given = exactly local peers b }
