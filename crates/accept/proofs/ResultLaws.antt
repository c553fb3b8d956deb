-- What an accepted call filled in is a good table of the resulting records.
use Prim.Native.Nat.{ℕ, ◌≤◌}
use mathlib.Core.List.{List, [], ◌∷◌}
use mathlib.Core.Path.{◌≡◌, refl, sym, ap, subst, ◌∙◌}
use mathlib.Core.Bool.{Bool, true, false, cond}
use borrow.Author.Tests.{leb-true}
use lib.ListN.{length}
use lib.Dec.{leb}
use Rattle.xdr.specs.Reading.{Reading, taken, refused as unread}
use Rattle.xdr.specs.Number.{IsBytes}
use Rattle.xdr.specs.Format.{read, read_at, Valid}
use Rattle.xdr.specs.Filling.{Outcome, gives, refuses}
use Rattle.xdr.proofs.Steps.{shifted_zero}
use Rattle.xdr.proofs.Corollaries.{read_exactly}
use Rattle.record.specs.File.{File, file}
use Rattle.message.specs.Header.{type_of}
use Rattle.message.specs.Message.{Kind, kind_of, Body, body, MessageValue, index, message}
use Rattle.message.specs.declared.edition.Edition.TheVariants as E
use Rattle.table.specs.Limits.{records_limit, bytes_limit}
use Rattle.order.specs.Order.{is_equal, compare_lists}
use Rattle.table.specs.Table.{is_good, is_within, records, table_of, resulting_table}
use Rattle.std.specs.declared.cmp.Ordering.{Ordering}
use Rattle.std.specs.declared.cmp.Ordering.TheVariants.{Less, Equal, Greater}
use Rattle.record.proofs.RisingLaws.{Rising, both_true}
use Rattle.table.specs.Steps.Standing.{AllValid}
use Rattle.xdr.proofs.FillingLaws.{not_given}
use Rattle.table.proofs.TableLaws.{GoodTable, good_table, table_good}
use Rattle.table.specs.Insert.{placed, insert}
use Rattle.table.proofs.InsertLaws.{insert_rising}
use Rattle.accept.specs.Resulting.{is_named, unmentioned, replacing, by_name, resulting}
use Rattle.accept.specs.Accepting.{unrepeated, of_records, first_record, of_index, IndexBody, index_with, no_index, index_body, of_body, of_reading, accept_outcome}
use Rattle.accept.proofs.InsertLaws.{replacing_one}
use Rattle.accept.proofs.MessageLaws.{index_format}
use Rattle.accept.proofs.KeptLaws.{kept_above}

-- the resulting records are valid, and their names rise

insert_valid : (f : File) (l : List File) → Valid file f → AllValid l → AllValid (insert replacing f l)
insert_valid f [] v w = (v, tt)
insert_valid f (g ∷ l) v w = go (compare_lists f.name g.name) (insert_valid f l v w.1)
  where
    go : (o : Ordering) → AllValid (insert replacing f l) → AllValid (placed replacing o f g l (insert replacing f l))
    go Less ih = (v, w)
    go Equal ih = (v, w.1)
    go Greater ih = (w.0, ih)

by_name_valid : (fs l : List File) → AllValid fs → AllValid l → AllValid (by_name fs l)
unfolding by_name
by_name_valid [] l v w = w
by_name_valid (f ∷ fs) l v w = by_name_valid fs (insert replacing f l) v.1 (insert_valid f l v.0 w)

by_name_rising : (fs l : List File) → Rising l → Rising (by_name fs l)
unfolding by_name
by_name_rising [] l r = r
by_name_rising (f ∷ fs) l r = by_name_rising fs (insert replacing f l) (insert_rising replacing replacing_one f l r)

kept_valid : (fs gs : List File) → AllValid gs → AllValid (unmentioned fs gs)
kept_valid fs [] w = tt
kept_valid fs (g ∷ gs) w = go (is_named g.name fs) (kept_valid fs gs w.1)
  where
    go : (b : Bool) → AllValid (unmentioned fs gs) → AllValid (cond b (unmentioned fs gs) (g ∷ unmentioned fs gs))
    go true ih = ih
    go false ih = (w.0, ih)

kept_rising : (fs gs : List File) → Rising gs → Rising (unmentioned fs gs)
kept_rising fs [] r = tt
kept_rising fs (g ∷ gs) r = go (is_named g.name fs) (kept_rising fs gs r.1)
  where
    go : (b : Bool) → Rising (unmentioned fs gs) → Rising (cond b (unmentioned fs gs) (g ∷ unmentioned fs gs))
    go true ih = ih
    go false ih = (kept_above g.name fs gs r.0 r.1, ih)

pub resulting_valid : (update : Bool) (fs gs : List File) → AllValid fs → AllValid gs → AllValid (resulting update fs gs)
unfolding resulting
resulting_valid true fs gs v w = by_name_valid fs (unmentioned fs gs) v (kept_valid fs gs w)
resulting_valid false fs gs v w = by_name_valid fs [] v tt

pub resulting_rising : (update : Bool) (fs gs : List File) → Rising gs → Rising (resulting update fs gs)
unfolding resulting
resulting_rising true fs gs r = by_name_rising fs (unmentioned fs gs) (kept_rising fs gs r)
resulting_rising false fs gs r = by_name_rising fs [] tt

-- what an accepted outcome went through

table_gave : (fs : List File) (l : List ℕ) → AllValid fs → Rising fs → resulting_table fs ≡ gives l → GoodTable l fs
table_gave fs l v r e = go (is_within (length fs) (length (table_of fs))) refl e
  where
    go : (b : Bool) → is_within (length fs) (length (table_of fs)) ≡ b → cond b (gives (table_of fs)) (refuses 19 0) ≡ gives l → GoodTable l fs
    go true w q =
        let is : l ≡ table_of fs = cc in
        let p = both_true (leb (length fs) records_limit) (leb (length (table_of fs)) bytes_limit) w in
        record {
          is = is;
          valid = v;
          few = leb-true (length fs) records_limit p.0;
          rising = r;
          short = subst (λ (k : List ℕ). length k ≤ bytes_limit) (sym is) (leb-true (length (table_of fs)) bytes_limit p.1);
        }
    go false w q = not_given q

unrepeated_gave : (before : List File) (at : ℕ) (fs : List File) (next : Outcome) (l : List ℕ) → unrepeated before at fs next ≡ gives l → next ≡ gives l
unrepeated_gave before at [] next l e = e
unrepeated_gave before at (f ∷ fs) next l e = go (is_named f.name before) e (λ q. unrepeated_gave (f ∷ before) _ fs next l q)
  where
    go : {x : Outcome} (b : Bool) → cond b (refuses 13 at) x ≡ gives l → (x ≡ gives l → next ≡ gives l) → next ≡ gives l
    go true q ih = not_given q
    go false q ih = ih q

-- the sender's table of records that it sent
pub record Result (old l : List ℕ) : Type 0 where
  pub update : Bool
  pub sent : List File
  pub good : GoodTable l (resulting update sent (records old))

-- the records of an Index are valid
pub files_valid : (sent : List ℕ × List File) → Valid (index E.New) sent → AllValid sent.1
unfolding Valid
files_valid sent v = v.1.1

module _ (old expected l : List ℕ) (b : IsBytes old) (g : is_good old ≡ true) where
  index_gave : (update : Bool) (sent : List ℕ × List File) → AllValid sent.1 → of_index update old expected sent ≡ gives l → Result old l
  index_gave update sent v e = go (is_equal (compare_lists sent.0 expected)) e
    where
      go : (t : Bool) → cond t (of_records update (first_record sent.0) sent.1 (records old)) (refuses 21 0) ≡ gives l → Result old l
      go true q = record {
        update = update;
        sent = sent.1;
        good = table_gave (resulting update sent.1 (records old)) l (resulting_valid update sent.1 (records old) v (good_table old b g).valid)
            (resulting_rising update sent.1 (records old) (good_table old b g).rising)
            (unrepeated_gave [] (first_record sent.0) sent.1 (resulting_table (resulting update sent.1 (records old))) l q);
      }
      go false q = not_given q

  body_gave : (k : Kind) (s : Body E.New k) → Valid (body E.New k) s → (y : IndexBody) → index_body k s ≡ y → of_body old expected y ≡ gives l → Result old l
  body_gave k s v (index_with update sent) q e = index_gave update sent (files_valid sent (index_format (λ A F a. Valid F a) k s q v)) e
  body_gave k s v no_index q e = not_given e

  reading_gave : (m : List ℕ) → IsBytes m → of_reading old expected (read_at (message E.New) m 0) ≡ gives l → Result old l
  unfolding read_at Valid
  reading_gave m c e = go (read (message E.New) m) refl (ap (of_reading old expected) (sym (shifted_zero (read (message E.New) m))) ∙ e)
    where
      go : (r : Reading (MessageValue E.New)) → read (message E.New) m ≡ r → of_reading old expected r ≡ gives l → Result old l
      go (taken v n) q h = body_gave (kind_of (type_of v.0)) v.1 (read_exactly (message E.New) m v n c q).1.1 (index_body (kind_of (type_of v.0)) v.1) refl h
      go (unread k p) q h = not_given h

-- an accepted call fills in a good table: of what was sent, and of what it keeps of the old table
pub accept_result : (old m expected l : List ℕ) → IsBytes old → IsBytes m → accept_outcome old m expected ≡ gives l → Result old l
unfolding accept_outcome
accept_result old m expected l b c e = go (is_good old) refl e
  where
    go : (t : Bool) → is_good old ≡ t → cond t (of_reading old expected (read_at (message E.New) m 0)) (refuses 15 0) ≡ gives l → Result old l
    go true g q = reading_gave old expected l b g m c q
    go false g q = not_given q

pub accept_good : (old m expected l : List ℕ) → IsBytes old → IsBytes m → accept_outcome old m expected ≡ gives l → is_good l ≡ true
accept_good old m expected l b c e = let r = accept_result old m expected l b c e in table_good l (resulting r.update r.sent (records old)) r.good
