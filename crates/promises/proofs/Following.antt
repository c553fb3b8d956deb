-- Bytes after the end of a message change no answer of any call that is given the message.
use Rattle.std.specs.Prelude.{Err}
use Rattle.std.specs.Prelude.{Ok}
use Rattle.std.specs.declared.result.Result.{Result}
use Rattle.xdr.specs.declared.answer.Refusal.{Refusal}
use Prim.Native.Nat.{ℕ}
use mathlib.Core.List.{List, [], ◌∷◌, ◌++◌}
use lib.ListN.{take}
use mathlib.Core.Path.{◌≡◌, refl, sym, ap, ◌∙◌}
use mathlib.Core.Bool.{Bool, true, false, cond}
use borrow.Author.Tests.{eqb-true}
use lib.Dec.{eqb}
use Rattle.xdr.specs.Answers.{at_start}
use Rattle.xdr.specs.Reading.{Reading, taken, refused}
use Rattle.xdr.specs.Format.{read, read_at}
use Rattle.xdr.proofs.Steady.{cut_short, steady}
use Rattle.xdr.proofs.Steps.{Reads}
use Rattle.xdr.specs.Filling.{refuses}
use Rattle.message.specs.Header.{type_of, id_of}
use Rattle.message.specs.Message.{Kind, is_index, is_request, is_response, is_ping, is_pong, is_index_update, is_options, kind_of, Body, body, MessageValue, message}
use Rattle.message.specs.Answers.{request_span, response_span, span_bytes, body_answer, message_answer}
use Rattle.message.specs.declared.answer.Span.{Span}
use Rattle.message.specs.declared.answer.ResponseSpan.{ResponseSpan}
use Rattle.message.specs.declared.answer.Message.{Message}
use Rattle.message_write.specs.Writing.{response_bytes, writing}
use Rattle.table.specs.Table.{is_good}
use Rattle.accept.specs.Accepting.{of_reading, accept_outcome}
use Rattle.serve.specs.Ruling.{is_ours, Ruling, serves, fills, ruling_on, ruling_of}
use Rattle.message.specs.Kinds.{request_in, response_in}
use Rattle.order.specs.Order.{is_equal, compare_lists}
use Rattle.sha256.specs.Hash.{digest}
use Rattle.link.specs.OneLink.{outstanding, without_oldest, released, kept_with, settled_by, answered_by}
use Rattle.link.specs.Hashes.{is_content, arrival_of}
use Rattle.link.specs.declared.request.Request.{Request}
use Rattle.link.specs.declared.list.Link.{Link}
use Rattle.link.specs.declared.outcome.LinkAnswered.{LinkAnswered}
use Rattle.link.specs.declared.outcome.Arrival.{Arrival}
use Rattle.link.specs.declared.outcome.Arrival.TheVariants as A
use Rattle.queue.specs.Queue.{link_of, hashes_of, admitted, answered_for, answer_of}
use Rattle.queue.specs.declared.queue.RequestQueue.{RequestQueue}
use Rattle.queue.specs.declared.outcome.Answered.{Answered}
use Rattle.message.specs.declared.edition.Edition.{Edition}
use Rattle.message.specs.declared.edition.Edition.TheVariants as E
use Rattle.edition.specs.Turning.{upgrading, downgrading}
use Rattle.promises.specs.Following.{IsEnough, Unchanged, OldUnchanged}
use Rattle.promises.proofs.Spans.{from_start, request_fields, response_fields, body_there}
use Rattle.promises.proofs.Serving.{ours_by_fields}

enough : (ed : Edition) (s : List ℕ) → IsEnough ed s → cut_short (read (message ed) s) ≡ false
enough ed s h = go (read (message ed) s) refl
  where
    by_number : (k p : ℕ) → read (message ed) s ≡ refused k p → (b : Bool) → eqb k 1 ≡ b → eqb k 1 ≡ false
    by_number k p e true q = absurd (h p (e ∙ ap (λ (n : ℕ). refused n p) (eqb-true k 1 q)))
    by_number k p e false q = q

    go : (r : Reading (MessageValue ed)) → read (message ed) s ≡ r → cut_short r ≡ false
    go (taken m n) e = refl
    go (refused k p) e = by_number k p e (eqb k 1) refl

-- the message is read as it is without them
read_same : (ed : Edition) (s t : List ℕ) → IsEnough ed s → read (message ed) (s ++ t) ≡ read (message ed) s
read_same ed s t h = steady (message ed) s t (enough ed s h)

read_from_start : (ed : Edition) (s t : List ℕ) → IsEnough ed s → read_at (message ed) (s ++ t) 0 ≡ read_at (message ed) s 0
read_from_start ed s t h = from_start ed (s ++ t) ∙ read_same ed s t h ∙ sym (from_start ed s)

-- an arrival goes by the data that the bytes have

module _ (hs m k : List ℕ) (r : Request) (d : Span) (same : span_bytes m d ≡ span_bytes k d) where
  content_same : is_content hs m d ≡ is_content hs k d
  unfolding is_content
  content_same = ap (λ (l : List ℕ). is_equal (compare_lists (digest l) (take 32 hs))) same

  released_same : arrival_of hs m (Ok (released r d)) ≡ arrival_of hs k (Ok (released r d))
  released_same = go (eqb d.length 0) (eqb d.length r.size) refl refl
    where
      go : (a b : Bool) → eqb d.length 0 ≡ a → eqb d.length r.size ≡ b → arrival_of hs m (Ok (released r d)) ≡ arrival_of hs k (Ok (released r d))
      go true b e f = rw e refl
      go false true e f = rw (e, f, content_same) refl
      go false false e f = rw (e, f) refl

arrives_same : (l : Link) (hs m k : List ℕ) (id : ℕ) (x : ResponseSpan) → span_bytes m x.«data» ≡ span_bytes k x.«data»
    → arrival_of hs m (answered_by l (Ok (record { id = id; response = x }))).release ≡ arrival_of hs k (answered_by l (Ok (record { id = id; response = x }))).release
arrives_same l hs m k id x e = by_oldest (outstanding l)
  where
    by_id : (r : Request) (b : Bool) → arrival_of hs m (cond {A = LinkAnswered} b (record { link = without_oldest l; release = Ok (released r x.«data») }) (kept_with l (at_start 20))).release
        ≡ arrival_of hs k (cond {A = LinkAnswered} b (record { link = without_oldest l; release = Ok (released r x.«data») }) (kept_with l (at_start 20))).release
    by_id r true = released_same hs m k r x.«data» e
    by_id r false = refl

    by_oldest : (rs : List Request) → arrival_of hs m (settled_by l rs id x.«data»).release ≡ arrival_of hs k (settled_by l rs id x.«data»).release
    by_oldest [] = refl
    by_oldest (r ∷ rs) = by_id r (eqb r.id id)

module _ (s t : List ℕ) (same : read (message E.New) (s ++ t) ≡ read (message E.New) s) where
  -- the ruling on a Request goes by its fields, and on any other message by its kind

  module _ (table repository : List ℕ) where
    by_kind : (k : Kind) (b : Body E.New k) (id n : ℕ) → Reads (body E.New k) (s ++ t) 4 (taken b n) → Reads (body E.New k) s 4 (taken b n)
        → ruling_on table repository (s ++ t) (request_in (body_answer E.New k id (taken b n))) ≡ ruling_on table repository s (request_in (body_answer E.New k id (taken b n)))
    by_kind is_index b id n g h = refl
    by_kind is_request b id n g h =
        let x = request_span E.New b n in
        let ours : is_ours table repository (s ++ t) x ≡ is_ours table repository s x =
        ours_by_fields table repository (s ++ t) x b n (request_fields E.New g) ∙ sym (ours_by_fields table repository s x b n (request_fields E.New h)) in
        ap (λ (v : Bool). cond v (serves x.name x.offset x.size) (fills (writing (message E.New) id 3 (response_bytes [])))) ours
    by_kind is_response b id n g h = refl
    by_kind is_ping b id n g h = refl
    by_kind is_pong b id n g h = refl
    by_kind is_index_update b id n g h = refl
    by_kind is_options b id n g h = refl

    by_reading : (r : Reading (MessageValue E.New)) → read (message E.New) s ≡ r → ruling_on table repository (s ++ t) (request_in (message_answer E.New r)) ≡ ruling_on table repository s (request_in (message_answer E.New r))
    by_reading (taken m n) e = by_kind (kind_of (type_of m.0)) m.1 (id_of m.0) n (body_there E.New (same ∙ e)) (body_there E.New e)
    by_reading (refused k p) e = refl

    ruling_same : ruling_of table repository (s ++ t) ≡ ruling_of table repository s
    unfolding ruling_of
    ruling_same =
        ap (λ (u : Ruling). cond (is_good table) u (fills (refuses 15 0)))
        (ap (λ (r : Reading (MessageValue E.New)). ruling_on table repository (s ++ t) (request_in (message_answer E.New r))) (from_start E.New (s ++ t) ∙ same)
        ∙ by_reading (read (message E.New) s) refl
        ∙ ap (λ (r : Reading (MessageValue E.New)). ruling_on table repository s (request_in (message_answer E.New r))) (sym (from_start E.New s)))

  -- an answer goes by the Response's data, and any other message is refused by its kind

  module _ (q : RequestQueue) (p : ℕ) where
    abbrev answered_with : (bytes : List ℕ) → Result Message Refusal → Answered
    answered_with m x = answered_for q p m (answered_by (link_of q p) (response_in x))

    answer_by_kind : (k : Kind) (b : Body E.New k) (id n : ℕ) → Reads (body E.New k) (s ++ t) 4 (taken b n) → Reads (body E.New k) s 4 (taken b n)
        → answered_with (s ++ t) (body_answer E.New k id (taken b n)) ≡ answered_with s (body_answer E.New k id (taken b n))
    answer_by_kind is_index b id n g h = refl
    answer_by_kind is_request b id n g h = refl
    answer_by_kind is_response b id n g h =
        let same-data = (response_fields E.New g).data_is ∙ sym (response_fields E.New h).data_is in
        ap (λ (v : Result Arrival Refusal). record { queue = (answered_with s (body_answer E.New is_response id (taken b n))).queue; arrival = v })
        (arrives_same (link_of q p) (hashes_of q p) (s ++ t) s id (response_span b n) same-data)
    answer_by_kind is_ping b id n g h = refl
    answer_by_kind is_pong b id n g h = refl
    answer_by_kind is_index_update b id n g h = refl
    answer_by_kind is_options b id n g h = refl

    answer_by_reading : (r : Reading (MessageValue E.New)) → read (message E.New) s ≡ r → answered_with (s ++ t) (message_answer E.New r) ≡ answered_with s (message_answer E.New r)
    answer_by_reading (taken m n) e = answer_by_kind (kind_of (type_of m.0)) m.1 (id_of m.0) n (body_there E.New (same ∙ e)) (body_there E.New e)
    answer_by_reading (refused k i) e = refl

    answer_same : answer_of q p (s ++ t) ≡ answer_of q p s
    answer_same =
        ap (λ (a : Answered). admitted q p a (λ (k : ℕ). record { queue = q; arrival = Err (at_start k) }))
        (ap (λ (r : Reading (MessageValue E.New)). answered_with (s ++ t) (message_answer E.New r)) (from_start E.New (s ++ t) ∙ same)
        ∙ answer_by_reading (read (message E.New) s) refl
        ∙ ap (λ (r : Reading (MessageValue E.New)). answered_with s (message_answer E.New r)) (sym (from_start E.New s)))

-- whatever follows bytes that are enough
pub following_unchanged : (s t : List ℕ) → IsEnough E.New s → Unchanged s t
unfolding accept_outcome downgrading
following_unchanged s t h =
    let same = read_same E.New s t h in
    let e = read_from_start E.New s t h in
    record {
      reading = ap (message_answer E.New) e;
      turning = rw same refl;
      accepting = λ old repository. ap (λ (r : Reading (MessageValue E.New)). cond (is_good old) (of_reading old repository r) (refuses 15 0)) e;
      answering = λ q p. answer_same s t same q p;
      serving = λ table repository. ruling_same s t same table repository;
    }

pub old_following_unchanged : (s t : List ℕ) → IsEnough E.Old s → OldUnchanged s t
unfolding upgrading
old_following_unchanged s t h = record { reading = ap (message_answer E.Old) (read_from_start E.Old s t h); turning = λ repository. rw (read_same E.Old s t h) refl }
