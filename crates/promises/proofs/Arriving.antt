-- What an answer brings after any calls from an accepted opening: data are those asked for, and wrong content is data as long as asked with another hash.
use Rattle.std.specs.declared.option.Option.{Option}
use Rattle.std.specs.Prelude.{Ok}
use Rattle.std.specs.declared.result.Result.{Result}
use Rattle.xdr.specs.declared.answer.Refusal.{Refusal}
use Prim.Native.Nat.{ℕ}
use native.Mathlib.Omega.{arith}
use mathlib.Core.Path.{◌≡◌, refl, sym, ap, subst, ◌∙◌}
use mathlib.Core.Bool.{Bool, true, false}
use mathlib.Core.List.{List, [], ◌∷◌}
use lib.ListN.{length, take, drop}
use lib.Dec.{eqb}
use borrow.Author.Tests.{eqb-true}
use Rattle.order.specs.Order.{is_equal, compare_lists}
use Rattle.std.specs.declared.cmp.Ordering.{Ordering}
use Rattle.std.specs.declared.cmp.Ordering.TheVariants.{Less, Equal, Greater}
use Rattle.order.proofs.OrderLaws.{equal_same, same_equal}
use Rattle.sha256.specs.Hash.{digest}
use Rattle.message.specs.Answers.{message_in, span_bytes}
use Rattle.message.specs.Kinds.{response_in}
use Rattle.message.specs.declared.answer.Span.{Span}
use Rattle.message.specs.declared.answer.ResponseSpan.{ResponseSpan}
use Rattle.message.specs.declared.kind.ResponseIn.{ResponseIn}
use Rattle.message.specs.declared.edition.Edition.TheVariants as E
use Rattle.link.specs.OneLink.{outstanding, released, answered_by}
use Rattle.link.specs.Hashes.{Asked, with_hashes, is_content, arrival_of}
use Rattle.link.specs.History.{is_taken}
use Rattle.link.specs.declared.request.Request.{Request}
use Rattle.link.specs.declared.outcome.LinkAnswered.{LinkAnswered}
use Rattle.link.specs.declared.outcome.Arrival.{Arrival}
use Rattle.link.specs.declared.outcome.Arrival.TheVariants as A
use Rattle.link.proofs.AnswerLaws.{AnswerWas, kept, freed, answer_was_lem, settled_oldest}
use Rattle.queue.specs.Queue.{opening, is_peer, link_of, hashes_of, answer_of}
use Rattle.queue.specs.declared.queue.RequestQueue.{RequestQueue}
use Rattle.queue.specs.declared.outcome.Answered.{Answered}
use Rattle.queue.proofs.CallLaws.{same_answer}
use Rattle.promises.specs.History.{PeerCall, reached, standing_for, Answers, Differs, brought_to, Brought}
use Rattle.promises.proofs.PeerRuns.{admit}
use Rattle.promises.proofs.Requests.{ended, held}

-- what the test of a hash tells

tested_same : (a b : List ℕ) → is_equal (compare_lists a b) ≡ true → a ≡ b
tested_same a b e = equal_same a b (go (compare_lists a b) e)
  where
    go : (o : Ordering) → is_equal o ≡ true → o ≡ Equal
    go Less e = let z : ◌≡◌ {A = ℕ} 0 1 = cc in absurd (omega arith)
    go Equal e = refl
    go Greater e = let z : ◌≡◌ {A = ℕ} 0 1 = cc in absurd (omega arith)

tested_other : (a b : List ℕ) → is_equal (compare_lists a b) ≡ false → a ≡ b → ⊥
tested_other a b e p =
    let t : is_equal (compare_lists a b) ≡ true = ap (λ (l : List ℕ). is_equal (compare_lists a l)) (sym p) ∙ ap is_equal (same_equal a) in
    let z : ◌≡◌ {A = ℕ} 0 1 = cc in
    omega arith

-- an arrival by the oldest request
module _ (hs m : List ℕ) (r : Request) (d : Span) where
  abbrev first : Asked
  first = record { id = r.id; size = r.size; hash = take 32 hs }

  -- by whether there are data, whether they are as long as asked, and whether their hash is the one asked for
  abbrev chosen : Bool → Bool → Bool → Result Arrival Refusal
  chosen true b c = Ok (A.NotAvailable r.id r.size)
  chosen false true true = Ok (A.Data r.id r.size d)
  chosen false true false = Ok (A.WrongContent r.id r.size)
  chosen false false c = Ok (A.WrongSize r.id r.size)

  arrives : (a b c : Bool) → eqb d.length 0 ≡ a → eqb d.length r.size ≡ b → is_content hs m d ≡ c → arrival_of hs m (Ok (released r d)) ≡ chosen a b c
  arrives true b c p q s = rw p refl
  arrives false true true p q s = rw (p, q, s) refl
  arrives false true false p q s = rw (p, q, s) refl
  arrives false false c p q s = rw (p, q) refl

  chosen_data : (a b c : Bool) (id size : ℕ) (x : Span) → eqb d.length r.size ≡ b → is_content hs m d ≡ c → chosen a b c ≡ Ok (A.Data id size x) → (d ≡ x) × Answers first id size x m
  unfolding is_content
  chosen_data true b c id size x q s e = let z : ◌≡◌ {A = ℕ} 0 1 = cc in absurd (omega arith)
  chosen_data false true true id size x q s e =
      let same : d ≡ x = cc in
      let long : d.length ≡ r.size = eqb-true d.length r.size q in (
        same,
        subst (λ (y : Span). Answers first id size y m) same
            (record { same_id = cc; same_size = cc; as_long = long ∙ cc; same_hash = tested_same (digest (span_bytes m d)) (take 32 hs) s }),
      )
  chosen_data false true false id size x q s e = let z : ◌≡◌ {A = ℕ} 0 1 = cc in absurd (omega arith)
  chosen_data false false c id size x q s e = let z : ◌≡◌ {A = ℕ} 0 1 = cc in absurd (omega arith)

  chosen_wrong : (a b c : Bool) (id size : ℕ) → eqb d.length r.size ≡ b → is_content hs m d ≡ c → chosen a b c ≡ Ok (A.WrongContent id size) → Differs first id size d m
  unfolding is_content
  chosen_wrong true b c id size q s e = let z : ◌≡◌ {A = ℕ} 0 1 = cc in absurd (omega arith)
  chosen_wrong false true true id size q s e = let z : ◌≡◌ {A = ℕ} 0 1 = cc in absurd (omega arith)
  chosen_wrong false true false id size q s e =
      let long : d.length ≡ r.size = eqb-true d.length r.size q in
      record { same_id = cc; same_size = cc; as_long = long ∙ cc; other_hash = tested_other (digest (span_bytes m d)) (take 32 hs) s }
  chosen_wrong false false c id size q s e = let z : ◌≡◌ {A = ℕ} 0 1 = cc in absurd (omega arith)

  -- the whole case table at once
  as_brought : arrival_of hs m (Ok (released r d)) ≡ Ok (brought_to first m d)
  unfolding is_content
  as_brought = go (eqb d.length 0) (eqb d.length r.size) refl refl
    where
      go : (a b : Bool) → eqb d.length 0 ≡ a → eqb d.length r.size ≡ b → arrival_of hs m (Ok (released r d)) ≡ Ok (brought_to first m d)
      go true b p q = rw p refl
      go false true p q = rw (p, q) refl
      go false false p q = rw (p, q) refl

  brings_data : (id size : ℕ) (x : Span) → arrival_of hs m (Ok (released r d)) ≡ Ok (A.Data id size x) → (d ≡ x) × Answers first id size x m
  brings_data id size x e =
      chosen_data (eqb d.length 0) (eqb d.length r.size) (is_content hs m d) id size x refl refl
      (sym (arrives (eqb d.length 0) (eqb d.length r.size) (is_content hs m d) refl refl refl) ∙ e)

  brings_wrong : (id size : ℕ) → arrival_of hs m (Ok (released r d)) ≡ Ok (A.WrongContent id size) → Differs first id size d m
  brings_wrong id size e =
      chosen_wrong (eqb d.length 0) (eqb d.length r.size) (is_content hs m d) id size refl refl
      (sym (arrives (eqb d.length 0) (eqb d.length r.size) (is_content hs m d) refl refl refl) ∙ e)

-- an answer from a peer after any calls from an accepted opening
module _ (ws : List (Option ℕ)) (four : length ws ≡ 4) (accepted : (opening ws).verdict ≡ Ok tt) (cs : List PeerCall) (p : ℕ) (peer : is_peer p ≡ true) (m : List ℕ) where
  abbrev q : RequestQueue
  q = reached ws cs

  abbrev hs : List ℕ
  hs = hashes_of q p

  abbrev y : Result ResponseIn Refusal
  y = response_in (message_in E.New m)

  is : (answer_of q p m).arrival ≡ arrival_of hs m (answered_by (link_of q p) y).release
  is = ap (λ (x : Answered). x.arrival) (same_answer q p (admit q (ended ws four accepted cs) p peer) m)

  stands : (rs : List Request) → outstanding (link_of q p) ≡ rs → standing_for ws cs p ≡ with_hashes rs hs
  stands rs o = sym ((held ws four accepted cs).exact p peer) ∙ ap (λ (k : List Request). with_hashes k hs) o

  brings : (k : List Request) → outstanding (link_of q p) ≡ k → (r : Asked) (rs : List Asked) (x : ResponseSpan) → standing_for ws cs p ≡ r ∷ rs → y ≡ Ok (record { id = r.id; response = x })
      → (answer_of q p m).arrival ≡ Ok (brought_to r m x.«data»)
  brings [] o r rs x e f =
      let z : with_hashes [] hs ≡ r ∷ rs = sym (stands [] o) ∙ e in
      let n : ◌≡◌ {A = ℕ} 0 1 = cc in
      absurd (omega arith)
  brings (a ∷ rest) o r rs x e f =
      let z : with_hashes (a ∷ rest) hs ≡ r ∷ rs = sym (stands (a ∷ rest) o) ∙ e in
      let same : first hs m a x.«data» ≡ r = cc in
      let id : a.id ≡ r.id = ap (λ (k : Asked). k.id) same in
      is
      ∙ ap (λ (v : Result ResponseIn Refusal). arrival_of hs m (answered_by (link_of q p) v).release) f
      ∙ ap (λ (v : LinkAnswered). arrival_of hs m v.release) (sym (settled_oldest (link_of q p) r.id x.«data» a rest o id))
      ∙ as_brought hs m a x.«data»
      ∙ ap (λ (k : Asked). Ok (brought_to k m x.«data»)) same

  -- an answer that was taken is a Response to the oldest request
  record Oldest (v : Result Arrival Refusal) : Type 0 where
    request : Request
    later : List Request
    span : ResponseSpan
    first_of : standing_for ws cs p ≡ with_hashes (request ∷ later) hs
    response : y ≡ Ok (record { id = request.id; response = span })
    arrived : arrival_of hs m (Ok (released request span.«data»)) ≡ v

  taken_from : (v : Result Arrival Refusal) → is_taken v ≡ true → (a : LinkAnswered) → AnswerWas (link_of q p) y a → arrival_of hs m a.release ≡ v → Oldest v
  taken_from v t a (kept f) e =
      let n : false ≡ true = ap is_taken e ∙ t in
      let z : ◌≡◌ {A = ℕ} 0 1 = cc in
      absurd (omega arith)
  taken_from v t a (freed x r rs k o s) e =
      record { request = r; later = rs; span = x.response; first_of = stands (r ∷ rs) o; response = k ∙ ap (λ (n : ℕ). Ok (record { id = n; response = x.response })) (sym s); arrived = e }

  oldest : (v : Result Arrival Refusal) → is_taken v ≡ true → (answer_of q p m).arrival ≡ v → Oldest v
  oldest v t e = taken_from v t (answered_by (link_of q p) y) (answer_was_lem (link_of q p) y) (sym is ∙ e)

  abbrev first_asked : {v : Result Arrival Refusal} → Oldest v → Asked
  first_asked w = first hs m w.request w.span.«data»

  abbrev later_asked : {v : Result Arrival Refusal} → Oldest v → List Asked
  later_asked w = with_hashes w.later (drop 32 hs)

  pub brought : Brought ws cs p m
  brought =
      record {
        brings = brings (outstanding (link_of q p)) refl;
        right = λ id size d e.
            let w : Oldest (Ok (A.Data id size d)) = oldest (Ok (A.Data id size d)) refl e in
            let b = brings_data hs m w.request w.span.«data» id size d w.arrived in
            (first_asked w, later_asked w, w.span, w.first_of, w.response ∙ ap (λ (n : ℕ). Ok (record { id = n; response = w.span })) b.1.same_id, b.0, b.1);
        wrong = λ id size e.
            let w : Oldest (Ok (A.WrongContent id size)) = oldest (Ok (A.WrongContent id size)) refl e in
            let b = brings_wrong hs m w.request w.span.«data» id size w.arrived in
            (first_asked w, later_asked w, w.span, w.first_of, w.response ∙ ap (λ (n : ℕ). Ok (record { id = n; response = w.span })) b.same_id, b);
      }
