-- An accepted table has exactly the records that were sent and, of an IndexUpdate, the old ones that it doesn't mention.
use Prim.Native.Nat.{ℕ}
use mathlib.Core.List.Memᴰ
use mathlib.Core.List.{List, [], ◌∷◌, Memᴰ}
use mathlib.Core.Path.{◌≡◌, refl, sym, ap, subst, ◌∙◌}
use mathlib.Core.Logic.{⊎_elim}
use mathlib.Core.Bool.{Bool, true, false, cond}
use borrow.Author.Tests.{leb-true}
use lib.ListN.{length}
use lib.Dec.{leb}
use Rattle.xdr.specs.Reading.{Reading, taken, refused as unread}
use Rattle.xdr.specs.Number.{IsBytes}
use Rattle.xdr.specs.Format.{read, read_at, Valid}
use Rattle.xdr.specs.Filling.{Outcome, gives, refuses}
use Rattle.xdr.proofs.Corollaries.{read_exactly}
use Rattle.record.specs.File.{File}
use Rattle.message.specs.Header.{type_of}
use Rattle.message.specs.Message.{Kind, kind_of, Body, body, MessageValue, message}
use Rattle.message.specs.declared.edition.Edition.TheVariants as E
use Rattle.table.specs.Limits.{records_limit, bytes_limit}
use Rattle.order.specs.Order.{is_equal, compare_lists}
use Rattle.table.specs.Table.{is_good, is_within, records, table_of, resulting_table}
use Rattle.order.proofs.SameLaws.{is_same_lem}
use Rattle.record.proofs.RisingLaws.{both_true}
use Rattle.table.specs.Steps.Standing.{AllValid}
use Rattle.xdr.proofs.FillingLaws.{not_given}
use Rattle.table.proofs.TableLaws.{good_table, array_records}
use Rattle.accept.specs.Resulting.{is_named, resulting}
use Rattle.accept.specs.Accepting.{unrepeated, of_records, first_record, of_index, IndexBody, index_with, no_index, index_body, of_body, of_reading, accept_outcome}
use Rattle.accept.specs.Steps.Sorted.{Distinct}
use Rattle.accept.proofs.MessageLaws.{index_format}
use Rattle.accept.proofs.ResultLaws.{files_valid, resulting_valid, accept_good}
use Rattle.promises.specs.Accepting.{NoneNamed, Accepted}
use Rattle.promises.proofs.BelongLaws.{none_named, named_none, resulting_only, resulting_all}
use Rattle.promises.proofs.Spans.{from_start}

-- no name stands twice in a message that was accepted
unrepeated_distinct : (before : List File) (at : ℕ) (fs : List File) (next : Outcome) (l : List ℕ) → unrepeated before at fs next ≡ gives l
    → (next ≡ gives l) × ((g : File) → Memᴰ g fs → NoneNamed g.name before) × Distinct fs
unrepeated_distinct before at [] next l e = (e, λ g m. absurd (Memᴰ.not-nil m), tt)
unrepeated_distinct before at (f ∷ fs) next l e = go (is_named f.name before) refl e (λ q. unrepeated_distinct (f ∷ before) _ fs next l q)
  where
    go : {x : Outcome} (b : Bool) → is_named f.name before ≡ b → cond b (refuses 13 at) x ≡ gives l
        → (x ≡ gives l → (next ≡ gives l) × ((g : File) → Memᴰ g fs → NoneNamed g.name (f ∷ before)) × Distinct fs)
        → (next ≡ gives l) × ((g : File) → Memᴰ g (f ∷ fs) → NoneNamed g.name before) × Distinct (f ∷ fs)
    go true q e ih = not_given e
    go false q e ih =
        let r = ih e in (
          r.0,
          λ g m. ⊎_elim (λ k. subst (λ (y : File). NoneNamed y.name before) (sym k) (none_named f.name before q)) (λ k x i. r.1 g k x (Memᴰ.tail i)) (Memᴰ.cases_cons m),
          (named_none f.name fs (λ g m p. r.1 g m f (Memᴰ.head refl) (sym p)), r.2),
        )

-- the table that an accepted call fills in
table_records : (fs : List File) (l : List ℕ) → AllValid fs → resulting_table fs ≡ gives l → records l ≡ fs
table_records fs l v = go (is_within (length fs) (length (table_of fs))) refl
  where
    go : (b : Bool) → is_within (length fs) (length (table_of fs)) ≡ b → cond b (gives (table_of fs)) (refuses 19 0) ≡ gives l → records l ≡ fs
    go true w q =
        let is : l ≡ table_of fs = cc in
        let p = both_true (leb (length fs) records_limit) (leb (length (table_of fs)) bytes_limit) w in
        ap records is ∙ array_records fs v (leb-true (length fs) records_limit p.0)
    go false w q = not_given q

-- what an accepted call went through
record Took (old repository table : List ℕ) (k : Kind) (b : Body E.New k) : Type 0 where
  update : Bool
  sent : List File
  sends : index_body k b ≡ index_with update (repository, sent)
  distinct : Distinct sent
  records_are : records table ≡ resulting update sent (records old)

module _ (old repository l : List ℕ) (valid-old : AllValid (records old)) where
  index_took : (update : Bool) (sent : List ℕ × List File) → AllValid sent.1 → of_index update old repository sent ≡ gives l
      → (sent.0 ≡ repository) × Distinct sent.1 × (records l ≡ resulting update sent.1 (records old))
  index_took update sent v = go (is_equal (compare_lists sent.0 repository)) refl
    where
      fs : List File
      fs = resulting update sent.1 (records old)

      go : (c : Bool) → is_equal (compare_lists sent.0 repository) ≡ c → cond c (of_records update (first_record sent.0) sent.1 (records old)) (refuses 21 0) ≡ gives l
          → (sent.0 ≡ repository) × Distinct sent.1 × (records l ≡ fs)
      go true q e =
          let r = unrepeated_distinct [] (first_record sent.0) sent.1 (resulting_table fs) l e in
          (is_same_lem sent.0 repository q, r.2, table_records fs l (resulting_valid update sent.1 (records old) v valid-old) r.0)
      go false q e = not_given e

  body_took : (k : Kind) (s : Body E.New k) → Valid (body E.New k) s → (y : IndexBody) → index_body k s ≡ y → of_body old repository y ≡ gives l → Took old repository l k s
  body_took k s v (index_with update sent) q e =
      let r = index_took update sent (files_valid sent (index_format (λ A F a. Valid F a) k s q v)) e in
      record { update = update; sent = sent.1; sends = q ∙ ap (λ (n : List ℕ). index_with update (n, sent.1)) r.0; distinct = r.1; records_are = r.2 }
  body_took k s v no_index q e = not_given e

-- every accepted call
pub accepted_records : (old bytes repository table : List ℕ) → IsBytes old → IsBytes bytes → accept_outcome old bytes repository ≡ gives table
    → Accepted old bytes repository table
unfolding accept_outcome Valid
accepted_records old bytes repository table b c e = by_old (is_good old) refl e
  where
    by_reading : is_good old ≡ true → (r : Reading (MessageValue E.New)) → read (message E.New) bytes ≡ r → of_reading old repository r ≡ gives table → Accepted old bytes repository table
    by_reading g (taken m n) q h =
        let t = body_took old repository table (good_table old b g).valid (kind_of (type_of m.0)) m.1 (read_exactly (message E.New) bytes m n c q).1.1 (index_body (kind_of (type_of m.0)) m.1) refl h in
        record {
          value = m;
          end = n;
          reads = q;
          update = t.update;
          sent = t.sent;
          sends = t.sends;
          good = accept_good old bytes repository table b c e;
          only = λ f i. resulting_only t.update t.sent (records old) f (subst (λ (l : List File). Memᴰ f l) t.records_are i);
          all = λ f i. subst (λ (l : List File). Memᴰ f l) (sym t.records_are) (resulting_all t.update t.sent (records old) f t.distinct i);
        }
    by_reading g (unread k p) q h = not_given h

    by_old : (g : Bool) → is_good old ≡ g → cond g (of_reading old repository (read_at (message E.New) bytes 0)) (refuses 15 0) ≡ gives table → Accepted old bytes repository table
    by_old true g h = by_reading g (read (message E.New) bytes) refl (ap (of_reading old repository) (sym (from_start E.New bytes)) ∙ h)
    by_old false g h = not_given h
