-- The Index or IndexUpdate that was found in a message: what accepting it does, and where its parts are.
use Prim.Native.Nat.{ℕ, ◌+◌, ◌-◌, ◌≤◌}
use mathlib.Core.List.{List}
use mathlib.Core.Path.{◌≡◌, refl, sym, ap, subst, ◌∙◌}
use mathlib.Core.Bool.{Bool, true, false}
use native.Mathlib.Omega.{arith}
use lib.ListN.{length, take, drop, length-take, length-drop}
use Rattle.std.specs.Prelude.{Ok, Err}
use Rattle.std.specs.declared.result.Result.{Result}
use Rattle.xdr.specs.Reading.{Reading, taken, shifted, refused as unread}
use Rattle.xdr.specs.Number.{IsBytes}
use Rattle.xdr.specs.Format.{Format, read, read_at}
use Rattle.xdr.specs.Filling.{refuses}
use Rattle.xdr.specs.Answers.{at_start}
use Rattle.xdr.specs.declared.answer.Refusal.{Refusal}
use Rattle.xdr.proofs.NumberLaws.{bytes_drop}
use Rattle.xdr.proofs.Steps.{Reads, opened, passed, ends_word}
use Rattle.xdr.proofs.Strings.{string_ends, string_within}
use Rattle.xdr.proofs.Parts.{pair_parts}
use Rattle.xdr.proofs.Corollaries.{read_exactly}
use Rattle.record.specs.File.{File}
use Rattle.record.proofs.OutlineLaws.{word_read}
use Rattle.message.specs.Header.{type_of, id_of}
use Rattle.message.specs.Message.{Kind, is_index, is_request, is_response, is_ping, is_pong, is_index_update, is_options, kind_of, Body, body, MessageValue, index, message}
use Rattle.message.specs.Answers.{past, index_span, body_answer, message_answer}
use Rattle.message.specs.declared.answer.IndexSpan.{IndexSpan}
use Rattle.table.specs.Limits.{records_limit}
use Rattle.order.specs.Order.{is_equal, compare_lists, part}
use Rattle.table.specs.Table.{table, is_good, records, table_of}
use Rattle.table.specs.Steps.Standing.{AllValid}
use Rattle.table.proofs.TableLaws.{valid_parts, array_records}
use Rattle.accept.specs.Accepting.{of_records, of_index, IndexBody, index_with, no_index, index_body, of_body, of_reading, accept_outcome}
use Rattle.message.specs.Kinds.{index_in}
use Rattle.accept.specs.Steps.Sorted.{IsArray, of_array}
use Rattle.message.specs.declared.kind.IndexIn.{IndexIn}
use Rattle.message.specs.declared.edition.Edition.TheVariants as E

not_index : {update : Bool} {sent : List ℕ × List File} {P : Type 0} → no_index ≡ index_with update sent → P
not_index e = cc

-- an Index's body has the format of one, whatever is said of values of formats
pub index_format : (P : (A : Type 0) → Format A → A → Type 0) (k : Kind) (b : Body E.New k) {update : Bool} {sent : List ℕ × List File} → index_body k b ≡ index_with update sent
    → P (Body E.New k) (body E.New k) b → P (List ℕ × List File) (index E.New) sent
index_format P is_index b {update} {sent} e h = let same : b ≡ sent = cc in subst (λ (s : List ℕ × List File). P (List ℕ × List File) (index E.New) s) same h
index_format P is_request b e h = not_index e
index_format P is_response b e h = not_index e
index_format P is_ping b e h = not_index e
index_format P is_pong b e h = not_index e
index_format P is_index_update b {update} {sent} e h = let same : b ≡ sent = cc in subst (λ (s : List ℕ × List File). P (List ℕ × List File) (index E.New) s) same h
index_format P is_options b e h = not_index e

-- what a body that was read is to a call that takes an Index
abbrev span_in : IndexBody → ℕ → Result IndexIn Refusal
span_in (index_with update sent) next = Ok (record { update = update; index = index_span E.New sent next })
span_in no_index next = Err (at_start 18)

index_in_lem : (k : Kind) (b : Body E.New k) (id next : ℕ) → index_in (body_answer E.New k id (taken b next)) ≡ span_in (index_body k b) next
index_in_lem is_index b id next = refl
index_in_lem is_request b id next = refl
index_in_lem is_response b id next = refl
index_in_lem is_ping b id next = refl
index_in_lem is_pong b id next = refl
index_in_lem is_index_update b id next = refl
index_in_lem is_options b id next = refl

-- what was found in a message
pub record Listing (m : List ℕ) (update : Bool) (x : IndexSpan) : Type 0 where
  pub sent : List ℕ × List File
  pub next : ℕ
  pub outcome : (old expected : List ℕ) → of_reading old expected (read_at (message E.New) m 0) ≡ of_index update old expected sent
  pub reads : Reads (index E.New) m 4 (taken sent next)
  pub span : x ≡ index_span E.New sent next

-- in the bytes that were read, a header and then the body
module _ (m : List ℕ) (v : MessageValue E.New) (next : ℕ) (h : read_at (message E.New) m 0 ≡ taken v next) where
  abbrev kind : Kind
  kind = kind_of (type_of v.0)

  body_reads : Reads (body E.New kind) m 4 (taken v.1 next)
  body_reads = let p = pair_parts (record { is = h }) in subst (λ (k : ℕ). Reads (body E.New kind) m k (taken v.1 next)) (ends_word (passed (passed (passed p.1)))).0 p.2

  found_in_lem : {f : Result IndexIn Refusal} → f ≡ index_in (message_answer E.New (read_at (message E.New) m 0)) → f ≡ span_in (index_body kind v.1) next
  found_in_lem e = e ∙ ap (λ (r : Reading (MessageValue E.New)). index_in (message_answer E.New r)) h ∙ index_in_lem kind v.1 (id_of v.0) next

  body_listed : {g : IndexIn} (y : IndexBody) → index_body kind v.1 ≡ y → span_in y next ≡ Ok g → Listing m g.update g.index
  body_listed {g} (index_with u sent) q e =
      let is : record { update = u; index = index_span E.New sent next } ≡ g = cc in
      record {
        sent = sent;
        next = next;
        outcome = λ old expected. ap (of_reading old expected) h ∙ ap (of_body old expected) q ∙ ap (λ (w : IndexIn). of_index w.update old expected sent) is;
        reads = index_format (λ A F a. Reads F m 4 (taken a next)) kind v.1 q body_reads;
        span = ap (λ (w : IndexIn). w.index) (sym is);
      }
  body_listed no_index q e = cc

  body_refused : {r : Refusal} (y : IndexBody) → span_in y next ≡ Err r → (old expected : List ℕ) → of_body old expected y ≡ refuses r.number r.place
  body_refused (index_with u sent) e old expected = cc
  body_refused {r} no_index e old expected = let is : at_start 18 ≡ r = cc in ap (λ (u : Refusal). refuses u.number u.place) is

pub found_list : (m : List ℕ) {f : Result IndexIn Refusal} {g : IndexIn} → f ≡ index_in (message_answer E.New (read_at (message E.New) m 0)) → f ≡ Ok g → Listing m g.update g.index
found_list m {f} {g} e q = go (read_at (message E.New) m 0) refl
  where
    go : (r : Reading (MessageValue E.New)) → read_at (message E.New) m 0 ≡ r → Listing m g.update g.index
    go (taken v next) h = body_listed m v next h (index_body (kind_of (type_of v.0)) v.1) refl (sym (found_in_lem m v next h e) ∙ q)
    go (unread k p) h = let w : ◌≡◌ {A = Result IndexIn Refusal} (Err (record { number = k; place = p })) (Ok g) = ap (λ (r : Reading (MessageValue E.New)). index_in (message_answer E.New r)) (sym h) ∙ sym e ∙ q in cc

-- a refusal
found_refused : (m : List ℕ) {f : Result IndexIn Refusal} {r : Refusal} → f ≡ index_in (message_answer E.New (read_at (message E.New) m 0)) → f ≡ Err r
    → (old expected : List ℕ) → of_reading old expected (read_at (message E.New) m 0) ≡ refuses r.number r.place
found_refused m {f} {r} e q old expected = go (read_at (message E.New) m 0) refl
  where
    go : (x : Reading (MessageValue E.New)) → read_at (message E.New) m 0 ≡ x → of_reading old expected (read_at (message E.New) m 0) ≡ refuses r.number r.place
    go (taken v next) h = ap (of_reading old expected) h ∙ body_refused m v next h (index_body (kind_of (type_of v.0)) v.1) (sym (found_in_lem m v next h e) ∙ q) old expected
    go (unread k p) h =
        let w : ◌≡◌ {A = Result IndexIn Refusal} (Err (record { number = k; place = p })) (Err r) = ap (λ (x : Reading (MessageValue E.New)). index_in (message_answer E.New x)) (sym h) ∙ sym e ∙ q in
        let is : record { number = k; place = p } ≡ r = cc in
        ap (of_reading old expected) h ∙ ap (λ (u : Refusal). refuses u.number u.place) is

-- an array that was read at a place

pub read_there : {A : Type 0} (k : ℕ) (r : Reading A) {a : A} {m : ℕ} → shifted k r ≡ taken a m → (r ≡ taken a (m - k)) × (k ≤ m)
read_there k (taken b u) {a} {m} e = let n : m ≡ k + u = cc in let v : m - k ≡ u = omega arith in (ap (taken b) (sym v) ∙ cc, omega arith)
read_there k (unread n p) e = cc

array_there : (m : List ℕ) (k : ℕ) (fs : List File) {next : ℕ} → IsBytes m → Reads table m k (taken fs next) → (records (part m k next) ≡ fs) × IsArray (part m k next)
unfolding read_at table_of
array_there m k fs {next} b r =
    let q = read_exactly table (drop k m) fs (next - k) (bytes_drop k m b) (read_there k (read table (drop k m)) r.is).0 in
    let v = valid_parts fs q.1 in
    let is : part m k next ≡ table_of fs = sym q.0 in
    let same : records (part m k next) ≡ fs = ap records is ∙ array_records fs v.0 v.1 in
    (same, record { is = is ∙ ap table_of (sym same); valid = subst AllValid (sym same) v.0; few = subst (λ (l : List File). length l ≤ records_limit) (sym same) v.1 })

-- the parts of the message, by the spans
module _ {m : List ℕ} {update : Bool} {x : IndexSpan} (b : IsBytes m) (l : Listing m update x) where
  abbrev repository : List ℕ
  repository = l.sent.0

  starts : x.files.start ≡ past 4 repository
  starts = ap (λ (y : IndexSpan). y.files.start) l.span

  stops : x.end ≡ l.next
  stops = ap (λ (y : IndexSpan). y.end) l.span

  record Parts : Type 0 where
    repository_is : repository ≡ take (length repository) (drop 8 m)
    files_read : Reads table m (past 4 repository) (taken l.sent.1 l.next)
    room : past 4 repository ≤ length m

  parts : Parts
  parts =
      let p = pair_parts l.reads in
      let o = opened (passed p.1) in
      let w = word_read (passed o.size) in
      let stop = string_ends (passed p.1) in
      record {
        repository_is = o.contents_are ∙ ap (λ (k : ℕ). take (length repository) (drop k m)) w.ends;
        files_read = subst (λ (k : ℕ). Reads table m k (taken l.sent.1 l.next)) stop p.2;
        room = omega (arith, stop, string_within (passed p.1));
      }

  repository_starts : x.repository.start ≡ 8
  repository_starts = ap (λ (y : IndexSpan). y.repository.start) l.span

  repository_long : x.repository.length ≡ length repository
  repository_long = ap (λ (y : IndexSpan). y.repository.length) l.span

  pub repository_fits : x.repository.start + x.repository.length ≤ length m
  repository_fits = omega (arith, repository_starts, repository_long, parts.room)

  pub repository_part : part m x.repository.start (x.repository.start + x.repository.length) ≡ repository
  repository_part =
      let long : x.repository.start + x.repository.length - x.repository.start ≡ length repository = omega (arith, repository_long) in
      ap (λ (n : ℕ). take n (drop x.repository.start m)) long ∙ ap (λ (n : ℕ). take (length repository) (drop n m)) repository_starts ∙ sym parts.repository_is

  pub files_fit : x.files.start + length (part m x.files.start x.end) ≤ length m + length m
  files_fit = omega (arith, starts, parts.room, length-take (x.end - x.files.start) (drop x.files.start m), length-drop x.files.start m)

  array_part : (records (part m x.files.start x.end) ≡ l.sent.1) × IsArray (part m x.files.start x.end)
  array_part =
      let same : part m x.files.start x.end ≡ part m (past 4 repository) l.next = ap (λ (k : ℕ). part m k x.end) starts ∙ ap (part m (past 4 repository)) stops in
      subst (λ (p : List ℕ). (records p ≡ l.sent.1) × IsArray p) (sym same) (array_there m (past 4 repository) l.sent.1 b parts.files_read)

  pub files_array : IsArray (part m x.files.start x.end)
  files_array = array_part.1

  -- what accepting it does

  module _ (old expected : List ℕ) (g : is_good old ≡ true) where
    pub by_list : accept_outcome old m expected ≡ of_index update old expected l.sent
    unfolding accept_outcome
    by_list = rw g (l.outcome old expected)

    pub another_repository : is_equal (compare_lists repository expected) ≡ false → accept_outcome old m expected ≡ refuses 21 0
    another_repository e = by_list ∙ rw e refl

    pub this_repository : is_equal (compare_lists repository expected) ≡ true → accept_outcome old m expected ≡ of_array update x.files.start (part m x.files.start x.end) old
    this_repository e =
        by_list
        ∙ rw e refl
        ∙ ap (λ (k : ℕ). of_records update (k + 4) l.sent.1 (records old)) (sym starts)
        ∙ ap (λ (fs : List File). of_records update (x.files.start + 4) fs (records old)) (sym array_part.0)

module _ (old m expected : List ℕ) where
  pub old_bad : is_good old ≡ false → accept_outcome old m expected ≡ refuses 15 0
  unfolding accept_outcome
  old_bad e = rw e refl

  pub message_refused : {f : Result IndexIn Refusal} {r : Refusal} → is_good old ≡ true → f ≡ index_in (message_answer E.New (read_at (message E.New) m 0)) → f ≡ Err r
      → accept_outcome old m expected ≡ refuses r.number r.place
  unfolding accept_outcome
  message_refused h e q = rw h (found_refused m e q old expected)
