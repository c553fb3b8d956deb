-- The fields of a message as a caller finds them, and the message that was read.
use Rattle.std.specs.declared.result.Result.{Result}
use Rattle.xdr.specs.declared.answer.Refusal.{Refusal}
use Prim.Native.Nat.{ℕ, ◌≤◌, ◌<◌}
use mathlib.Core.List.{List}
use mathlib.Core.Path.{◌≡◌, refl, sym, ap, ◌∙◌}
use mathlib.Core.Bool.{Bool, true, false, cond}
use native.Mathlib.Omega.{arith}
use borrow.Author.Tests.{leb-true, eqb-true, eqb-false}
use lib.Dec.{leb, eqb}
use Rattle.xdr.specs.Reading.{Reading, taken, refused}
use Rattle.xdr.specs.Number.{IsBytes}
use Rattle.xdr.specs.Format.{bytes, read, encode, Valid}
use Rattle.record.proofs.RisingLaws.{both_true}
use Rattle.record.specs.File.{files}
use Rattle.record.specs.KeyValue.{options}
use Rattle.message.specs.Limits.{files_limit, options_limit}
use Rattle.message.specs.Header.{id_of, type_of, last_type, header}
use Rattle.message.specs.Message.{Kind, is_index, is_request, is_response, is_ping, is_pong, is_index_update, is_options, kind_of, Body, MessageValue, message}
use Rattle.message.specs.Answers.{message_answer, message_in}
use Rattle.message.specs.declared.answer.Message.{Message}
use Rattle.message.specs.declared.edition.Edition.{Edition}
use Rattle.message_write.specs.Writing.{writing}
use Rattle.message_write.proofs.WritingLaws.{types_end}
use Rattle.promises.specs.Bodies.{body_bytes}
use Rattle.promises.specs.Spans.{SaysFields}
use Rattle.promises.specs.RoundTrips.{MessageFields, an_index, a_request, a_response, a_ping, a_pong, an_index_update, some_options, written_of, finds, finds_none, found_by, found}
use Rattle.promises.proofs.Spans.{from_start, spans_are_fields}

-- the type of each kind
abbrev pub number_of : Kind → ℕ
number_of is_index = 1
number_of is_request = 2
number_of is_response = 3
number_of is_ping = 4
number_of is_pong = 5
number_of is_index_update = 6
number_of is_options = 7

-- the type that a kind has is the one that it was found by

pick : (t n : ℕ) (k rest : Kind) → n ≤ t → number_of k ≡ n → (n < t → number_of rest ≡ t) → number_of (cond (eqb t n) k rest) ≡ t
pick t n k rest h e f = go (eqb t n) refl
  where
    go : (b : Bool) → eqb t n ≡ b → number_of (cond b k rest) ≡ t
    go true q = e ∙ sym (eqb-true t n q)
    go false q = f (let ne = eqb-false t n q in omega (arith, ne))

pub number_kind : (t : ℕ) → 1 ≤ t → t ≤ 7 → number_of (kind_of t) ≡ t
number_kind t low high =
    pick t 1 is_index _ low refl λ a. pick t 2 is_request _ (omega arith) refl λ b. pick t 3 is_response _ (omega arith) refl λ c. pick t 4 is_ping _ (omega arith) refl λ d.
    pick t 5 is_pong _ (omega arith) refl λ e. pick t 6 is_index_update _ (omega arith) refl λ f. omega arith

module _ (ed : Edition) where
  -- the fields that a body says
  abbrev pub fields_of : (k : Kind) → Body ed k → MessageFields ed
  fields_of is_index b = an_index b.0 (encode (files files_limit) b.1)
  fields_of is_request b = a_request b.repository b.name b.offset b.size b.hash
  fields_of is_response b = a_response b
  fields_of is_ping b = a_ping
  fields_of is_pong b = a_pong
  fields_of is_index_update b = an_index_update b.0 (encode (files files_limit) b.1)
  fields_of is_options b = some_options (encode (options options_limit) b)

  pub written_fields : (k : Kind) (b : Body ed k) (id : ℕ) → written_of ed id (fields_of k b) ≡ writing (message ed) id (number_of k) (body_bytes ed k b)
  written_fields is_index b id = refl
  written_fields is_request b id = refl
  written_fields is_response b id = refl
  written_fields is_ping b id = refl
  written_fields is_pong b id = refl
  written_fields is_index_update b id = refl
  written_fields is_options b id = refl

  -- what is found where the spans are those of fields
  pub found_fields : (s : List ℕ) (k : Kind) (b : Body ed k) (id n : ℕ) (a : Result Message Refusal) → SaysFields ed s id k b n a → found_by ed s a ≡ finds id (fields_of k b) n
  found_fields s is_index b id n a (x, e, f) = ap (found_by ed s) e ∙ rw (f.repository_is, f.files_are, f.end_is) refl
  found_fields s is_request b id n a (x, e, f) = ap (found_by ed s) e ∙ rw (f.repository_is, f.name_is, f.offset_is, f.size_is, f.hash_is, f.end_is) refl
  found_fields s is_response b id n a (x, e, f) = ap (found_by ed s) e ∙ rw (f.data_is, f.end_is) refl
  found_fields s is_ping b id n a e = ap (found_by ed s) e
  found_fields s is_pong b id n a e = ap (found_by ed s) e
  found_fields s is_index_update b id n a (x, e, f) = ap (found_by ed s) e ∙ rw (f.repository_is, f.files_are, f.end_is) refl
  found_fields s is_options b id n a (x, e, f) = ap (found_by ed s) e ∙ rw (f.options_are, f.end_is) refl

  -- a header that was read has one of the seven types
  pub type_range : (h : ℕ) → Valid (header ed) h → (1 ≤ type_of h) × (type_of h ≤ 7)
  unfolding Valid
  type_range h v =
      let p = both_true (leb 1 (type_of h)) (leb (type_of h) (last_type ed)) v.0.1 in
      let last = leb-true (type_of h) (last_type ed) p.1 in
      (leb-true 1 (type_of h) p.0, omega (arith, last, (types_end ed).1))

  -- what is found in bytes is a message that was read
  pub record Told (s : List ℕ) (id : ℕ) (fields : MessageFields ed) (end : ℕ) : Type 0 where
    pub value : MessageValue ed
    pub reads : read (message ed) s ≡ taken value end
    pub id_is : id_of value.0 ≡ id
    pub fields_are : fields_of (kind_of (type_of value.0)) value.1 ≡ fields

  pub found_told : (s : List ℕ) → IsBytes s → (id : ℕ) (fields : MessageFields ed) (end : ℕ) → found ed s ≡ finds id fields end → Told s id fields end
  found_told s b id fields end e = go (read (message ed) s) refl
    where
      go : (r : Reading (MessageValue ed)) → read (message ed) s ≡ r → Told s id fields end
      go (taken m n) q =
          let k : Kind = kind_of (type_of m.0) in
          let found-is : finds (id_of m.0) (fields_of k m.1) n ≡ finds id fields end =
          sym (found_fields s k m.1 (id_of m.0) n (message_in ed s) (spans_are_fields ed s m n b q)) ∙ e in
          let ids : id_of m.0 ≡ id = cc in
          let same : fields_of k m.1 ≡ fields = cc in
          let ends : n ≡ end = cc in
          record { value = m; reads = q ∙ ap (taken m) ends; id_is = ids; fields_are = same }
      go (refused k p) q =
          let none : finds_none ≡ finds id fields end = sym (ap (λ (r : Reading (MessageValue ed)). found_by ed s (message_answer ed r)) (from_start ed s ∙ q)) ∙ e in
          let z : ◌≡◌ {A = ℕ} 0 1 = cc in absurd (omega arith)

  -- and one that was read is found
  pub read_found : (s : List ℕ) (m : MessageValue ed) (n : ℕ) → IsBytes s → read (message ed) s ≡ taken m n → found ed s ≡ finds (id_of m.0) (fields_of (kind_of (type_of m.0)) m.1) n
  read_found s m n b e = found_fields s (kind_of (type_of m.0)) m.1 (id_of m.0) n (message_in ed s) (spans_are_fields ed s m n b e)
