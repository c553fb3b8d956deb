-- A Request is served exactly if it is for us; otherwise it gets the reply with its ID and no data, or 14: no other number of the writer comes out.
use Rattle.std.specs.Prelude.{Ok, Err}
use Rattle.std.specs.declared.result.Result.{Result}
use Rattle.xdr.specs.declared.answer.Refusal.{Refusal}
use Prim.Native.Nat.{ℕ, ◌/◌, ◌%◌, ◌≤◌}
use mathlib.Core.List.{List, []}
use mathlib.Core.Path.{◌≡◌, refl, sym, ap, subst, ◌∙◌}
use mathlib.Core.Bool.{Bool, true, false, ◌&&◌}
use native.Mathlib.Omega.{arith}
use borrow.Author.Tests.{le-leb}
use Rattle.xdr.specs.Reading.{Reading, taken, refused}
use Rattle.xdr.specs.Filling.{gives}
use Rattle.xdr.specs.Pad.{all_zero}
use Rattle.xdr.specs.Format.{read, read_at, encode}
use Rattle.message.specs.Header.{header_of, type_of, id_of}
use Rattle.message.specs.Message.{RequestBody, Kind, is_index, is_request, is_response, is_ping, is_pong, is_index_update, is_options, kind_of, Body, MessageValue, message}
use Rattle.message.specs.Answers.{body_answer, message_answer, message_in}
use Rattle.message.specs.declared.answer.RequestSpan.{RequestSpan}
use Rattle.message.specs.declared.answer.Message.{Message}
use Rattle.message.specs.declared.answer.Message.TheVariants as M
use Rattle.message.specs.declared.edition.Edition.TheVariants as E
use Rattle.message_write.specs.Writing.{message_bytes, response_bytes, as_read, writing}
use Rattle.message_write.specs.Steps.{writing_body}
use Rattle.message_write.proofs.WritingLaws.{by_body}
use Rattle.order.specs.Order.{is_equal, compare_lists}
use Rattle.order.proofs.OrderLaws.{same_equal}
use Rattle.order.proofs.SameLaws.{is_same_lem}
use Rattle.record.proofs.RisingLaws.{both_true}
use Rattle.table.specs.Table.{is_good, records}
use Rattle.want.specs.Listing.{lists_there, block_with}
use Rattle.serve.specs.Ruling.{is_ours, serves, fills, ruling_on, ruling_of}
use Rattle.serve.proofs.RulingLaws.{table_good, ours_served, ours_not}
use Rattle.promises.specs.Spans.{RequestFields, SaysFields}
use Rattle.promises.specs.Serving.{reply_bytes, IsForUs, ServedExactly}

-- the ID of a Request that was read

abbrev id_in : Result Message Refusal → ℕ
id_in (Ok (M.Index id x)) = id
id_in (Ok (M.Request id x)) = id
id_in (Ok (M.Response id x)) = id
id_in (Ok (M.Ping id n)) = id
id_in (Ok (M.Pong id n)) = id
id_in (Ok (M.IndexUpdate id x)) = id
id_in (Ok (M.Options id x)) = id
id_in (Err r) = 0

id_of_lem : (k : Kind) (b : Body E.New k) (id next : ℕ) → id_in (body_answer E.New k id (taken b next)) ≡ id
id_of_lem is_index b id next = refl
id_of_lem is_request b id next = refl
id_of_lem is_response b id next = refl
id_of_lem is_ping b id next = refl
id_of_lem is_pong b id next = refl
id_of_lem is_index_update b id next = refl
id_of_lem is_options b id next = refl

small_id : (r : Reading (MessageValue E.New)) → id_in (message_answer E.New r) ≤ 4095
small_id (taken m next) = rw (id_of_lem (kind_of (type_of m.0)) m.1 (id_of m.0) next) (omega arith)
small_id (refused k p) = omega arith

-- the reply as it is written

module _ (id : ℕ) (h : id ≤ 4095) where
  reply_bytes_lem : message_bytes id 3 (response_bytes []) ≡ reply_bytes id
  unfolding encode
  reply_bytes_lem =
      let a : header_of id 3 / 16777216 ≡ id / 256 = omega arith in
      let b : header_of id 3 % 16777216 / 65536 ≡ id % 256 = omega arith in
      let c : header_of id 3 % 16777216 % 65536 / 256 ≡ 3 = omega arith in
      let d : header_of id 3 % 16777216 % 65536 % 256 / 1 ≡ 0 = omega arith in
      cc

  reply_writing : writing (message E.New) id 3 (response_bytes []) ≡ gives (reply_bytes id)
  unfolding read encode all_zero writing_body
  reply_writing = by_body E.New id 3 (response_bytes []) (omega arith) (omega arith) ∙ simp (le-leb id 4095 h) (ap (λ (l : List ℕ). as_read {A = List ℕ} l (taken [] 8)) reply_bytes_lem)

-- a Request that is not ours: what there is to fill in is the reply's eight bytes, under its ID
pub unserved_replied : (t repository s : List ℕ) (id : ℕ) (x : RequestSpan) → is_good t ≡ true → message_in E.New s ≡ Ok (M.Request id x) → is_ours t repository s x ≡ false
    → ruling_of t repository s ≡ fills (gives (reply_bytes id))
unserved_replied t repository s id x g e o =
    let small : id ≤ 4095 = subst (λ (a : Result Message Refusal). id_in a ≤ 4095) e (small_id (read_at (message E.New) s 0)) in
    table_good t repository s [] g (sym e) refl refl ∙ ours_not t repository s [] (record { id = id; request = x }) refl o ∙ ap fills (reply_writing id small)

-- whether it is ours goes by its fields
pub ours_by_fields : (t repository s : List ℕ) (x : RequestSpan) (b : Body E.New is_request) (end : ℕ) → RequestFields E.New s x b end
    → is_ours t repository s x ≡ (is_equal (compare_lists b.repository repository) && lists_there (records t) b.name b.offset (block_with b.size b.hash))
ours_by_fields t repository s x b end f = rw (f.repository_is, f.name_is, f.offset_is, f.size_is, f.hash_is) refl

-- the ruling by the fields
module _ (t repository s : List ℕ) (g : is_good t ≡ true) (id : ℕ) (x : RequestSpan) (e : message_in E.New s ≡ Ok (M.Request id x)) (b : Body E.New is_request) (end : ℕ) (f : RequestFields E.New s x b end) where
  abbrev named : Bool
  named = is_equal (compare_lists b.repository repository)

  abbrev lists : Bool
  lists = lists_there (records t) b.name b.offset (block_with b.size b.hash)

  ours : is_ours t repository s x ≡ (named && lists)
  ours = ours_by_fields t repository s x b end f

  for_us : (named && lists) ≡ true → IsForUs t repository b
  for_us h = let p = both_true named lists h in (is_same_lem b.repository repository p.0, p.1)

  us_for : IsForUs t repository b → (named && lists) ≡ true
  us_for h = simp (ap (λ (r : List ℕ). is_equal (compare_lists r repository)) h.0 ∙ ap is_equal (same_equal repository), h.1)

  taken_so : ruling_of t repository s ≡ ruling_on t repository s (Ok (record { id = id; request = x }))
  taken_so = table_good t repository s [] g (sym e) refl refl

  by_test : (c : Bool) → (named && lists) ≡ c → ServedExactly t repository s id b
  by_test true h =
      let is : ruling_of t repository s ≡ serves x.name x.offset x.size = taken_so ∙ ours_served t repository s [] (record { id = id; request = x }) refl (ours ∙ h) in
      record {
        if = λ u. (x.name, is ∙ ap (λ (o : ℕ). serves x.name o x.size) f.offset_is ∙ ap (serves x.name b.offset) f.size_is, f.name_is);
        only_if = λ n o l q. for_us h;
        otherwise = λ u. absurd (u (for_us h));
      }
  by_test false h =
      let is = unserved_replied t repository s id x g e (ours ∙ h) in
      record {
        if = λ u. let both = us_for u in let z : ◌≡◌ {A = ℕ} 0 1 = cc in absurd (omega arith);
        only_if = λ n o l q. let no : fills (gives (reply_bytes id)) ≡ serves n o l = sym is ∙ q in let z : ◌≡◌ {A = ℕ} 0 1 = cc in absurd (omega arith);
        otherwise = λ u. is;
      }

-- every Request that is read
pub served_exactly : (t repository s : List ℕ) → is_good t ≡ true → (id : ℕ) (b : RequestBody E.New) (end : ℕ) → SaysFields E.New s id is_request b end (message_in E.New s) → ServedExactly t repository s id b
served_exactly t repository s g id b end (x, e, f) = by_test t repository s g id x e b end f _ refl
