-- After any calls, whatever each issue was told, a link holds exactly the requests issued and since then neither answered nor dropped, each with the
-- hash that was asked for.
use Rattle.std.specs.Prelude.{Ok, Err}
use Rattle.std.specs.declared.result.Result.{Result}
use Rattle.xdr.specs.declared.answer.Refusal.{Refusal}
use Prim.Native.Nat.{ℕ, suc, ◌≤◌}
use native.Mathlib.Omega.{arith}
use mathlib.Core.Path.{◌≡◌, refl, sym, ap, subst, ◌∙◌}
use mathlib.Core.Bool.{Bool, true, false, cond}
use mathlib.Core.List.{List, [], ◌∷◌, ◌++◌, append_assoc, append-nil}
use lib.ListN as list
use lib.ListN.{length, length-drop, replicate}
use lib.Seq.{length-take-le}
use lib.Dec.{eqb, leb}
use borrow.Author.Tests.{eq-eqb, ne_eqb, leb-true}
use Rattle.xdr.specs.Filling.{Outcome, gives, refuses, in_room}
use Rattle.message.specs.Answers.{message_in}
use Rattle.message.specs.Kinds.{response_in}
use Rattle.message.specs.declared.kind.ResponseIn.{ResponseIn}
use Rattle.message.specs.declared.edition.Edition.TheVariants as E
use Rattle.message_write.specs.Writing.{request_bytes}
use Rattle.xdr.proofs.FillingLaws.{given_room}
use Rattle.link.specs.Requests.{is_consecutive}
use Rattle.link.specs.OneLink.{outstanding, window_fits, empty_link, issuing, appended, issued_link, without_oldest, released, answered_by, emptied}
use Rattle.link.specs.Hashes.{Asked, asked, with_hashes, no_hashes, without_first, arrival_of}
use Rattle.link.specs.History.{Hashed, LinkCall, issue, answer, drop, Event, issue_was, answer_was, drop_was, hashed_issued, hashed_answered, after_call, event, final, history, issued, settles, settled, kept, standing, issued_ids, ids_from}
use Rattle.link.specs.declared.request.Request.{Request}
use Rattle.link.specs.declared.list.Link.{Link}
use Rattle.link.specs.declared.outcome.LinkAnswered.{LinkAnswered}
use Rattle.link.proofs.RequestLaws.{both}
use Rattle.link.proofs.LinkLaws.{Orderly, orderly_facts, orderly_made}
use Rattle.link.proofs.IssueLaws.{issuing_tells}
use Rattle.link.proofs.AnswerLaws.{AnswerWas, kept as refused_so, freed, answer_was_lem}
use Rattle.link.proofs.Moves.{Good, next_request, outstanding_appended, good_appended, outstanding_without, good_without, good_emptied, Apart, first_apart}
use Rattle.link.proofs.AskedLaws.{hashes_appended, hashes_behind, without_first_lem, length_hashes}

-- what is kept of some requests

kept_append : (es : List Event) (a b : List Asked) → kept es (a ++ b) ≡ kept es a ++ kept es b
kept_append es [] b = refl
kept_append es (r ∷ a) b = pick (settled r.id es) (kept_append es a b)
  where
    pick : (t : Bool) → kept es (a ++ b) ≡ kept es a ++ kept es b → cond t (kept es (a ++ b)) (r ∷ kept es (a ++ b)) ≡ cond t (kept es a) (r ∷ kept es a) ++ kept es b
    pick true e = e
    pick false e = ap (λ (l : List Asked). r ∷ l) e

-- an event that settles none of them
kept_past : (e : Event) (es : List Event) (rs : List Asked) → ((id : ℕ) → settles id e ≡ false) → kept (e ∷ es) rs ≡ kept es rs
kept_past e es [] h = refl
kept_past e es (r ∷ rs) h = rw (h r.id, kept_past e es rs h)

-- an answer to a request that is not among them
kept_apart : (a : ℕ) (e : Event) (es : List Event) (rs : List Request) (hs : List ℕ) → ((id : ℕ) → settles id e ≡ eqb a id) → Apart a rs → kept (e ∷ es) (with_hashes rs hs) ≡ kept es (with_hashes rs hs)
unfolding Apart
kept_apart a e es [] hs h d = refl
kept_apart a e es (r ∷ rs) hs h d = rw (h r.id, ne_eqb a r.id d.0, kept_apart a e es rs (list.drop 32 hs) h d.1)

-- a drop
kept_dropped : (e : Event) (es : List Event) (rs : List Asked) → ((id : ℕ) → settles id e ≡ true) → kept (e ∷ es) rs ≡ []
kept_dropped e es [] h = refl
kept_dropped e es (r ∷ rs) h = rw (h r.id, kept_dropped e es rs h)

-- one call

-- a link in order, with as many hashes as it has entries
pub record Sound (q : Hashed) : Type 0 where
  pub good : Good q.link
  pub hashed : length q.hashes ≡ 512

abbrev pub asked_in : Hashed → List Asked
asked_in q = asked q.link q.hashes

record Moved (q : Hashed) (e : Event) (p : Hashed) : Type 0 where
  sound : Sound p
  keeps : (es : List Event) → kept es (asked_in p) ≡ kept (e ∷ es) (asked_in q) ++ kept es (issued e)

-- one that settles nothing, issues nothing and leaves the link
stays : (q : Hashed) (e : Event) → Sound q → ((id : ℕ) → settles id e ≡ false) → issued e ≡ [] → Moved q e q
stays q e g h n =
    record {
      sound = g;
      keeps = λ es. sym (ap (λ (l : List Asked). kept (e ∷ es) (asked_in q) ++ kept es l) n ∙ append-nil (kept (e ∷ es) (asked_in q)) ∙ kept_past e es (asked_in q) h);
    }

moved_issue : (held limit : ℕ) (q : Hashed) (r n : List ℕ) (o size : ℕ) (h : List ℕ) (room : ℕ) (x : Outcome)
    → in_room room (issuing held limit q.link (request_bytes E.New r n o size h) size) ≡ x → Sound q → Moved q (issue_was q.link.next size h x) (hashed_issued q size h x)
moved_issue held limit q r n o size h room (gives l) e g =
    let k : Link = q.link in
    let s : Orderly k = orderly_facts k g.good.orderly in
    let a = issuing_tells held limit k r n o size h l s (given_room room (issuing held limit k (request_bytes E.New r n o size h) size) l e).0 in
    let w : Event = issue_was k.next size h (gives l) in
    let out : outstanding (appended k size) ≡ outstanding k ++ (next_request k size ∷ []) = outstanding_appended k size (omega (arith, g.good.long, a.0, s.high)) in
    let many : length (outstanding k) ≡ k.count = length-take-le k.count k.entries (omega (arith, g.good.long, s.held, s.high)) in
    let new : Asked = record { id = k.next; size = size; hash = h } in
    let all = hashes_appended (outstanding k) (next_request k size) q.hashes h k.count many a.3 (omega (arith, g.hashed, a.0, s.high)) in
    let whole : asked_in (hashed_issued q size h (gives l)) ≡ asked_in q ++ (new ∷ []) = ap (λ (rs : List Request). with_hashes rs (hashed_issued q size h (gives l)).hashes) out ∙ all.0 in
    record {
      sound = record { good = good_appended k size g.good a.0 a.1; hashed = all.1 ∙ g.hashed };
      keeps = λ es. ap (kept es) whole ∙ kept_append es (asked_in q) (new ∷ [])
          ∙ ap (λ (l : List Asked). l ++ kept es (new ∷ [])) (sym (kept_past w es (asked_in q) (λ id. refl)));
    }
moved_issue held limit q r n o size h room (refuses k p) e g = stays q (issue_was q.link.next size h (refuses k p)) g (λ id. refl) refl

rest_length : (q : Link) (r : Request) (rs : List Request) → Good q → outstanding q ≡ r ∷ rs → length rs ≤ 15
rest_length q r rs g e =
    let s : Orderly q = orderly_facts q g.orderly in
    let l : length (outstanding q) ≡ q.count = length-take-le q.count q.entries (omega (arith, g.long)) in
    let m : length (outstanding q) ≡ suc (length rs) = ap length e in
    omega arith

-- an answer to the oldest
module _ (q : Hashed) (m : List ℕ) (x : ResponseIn) (r : Request) (rs : List Request) (e : outstanding q.link ≡ r ∷ rs) (g : Sound q) where
  abbrev was : Event
  was = answer_was (Ok x) (arrival_of q.hashes m (Ok (released r x.response.«data»)))

  abbrev then : Hashed
  then = record { link = without_oldest q.link; hashes = without_first q.hashes }

  moved_oldest : r.id ≡ x.id → Moved q was then
  moved_oldest same =
      let k : Link = q.link in
      let hs : List ℕ = q.hashes in
      let s : Orderly k = orderly_facts k g.good.orderly in
      let few : length rs ≤ 15 = rest_length k r rs g.good e in
      let out : outstanding (without_oldest k) ≡ rs = outstanding_without k r rs g.good e in
      let o : is_consecutive (r ∷ rs) k.next ≡ true = ap (λ (l : List Request). is_consecutive l k.next) (sym e) ∙ s.ordered in
      let d : Apart x.id rs = subst (λ (i : ℕ). Apart i rs) same (first_apart r rs k.next o few) in
      let rest : asked_in then ≡ with_hashes rs (list.drop 32 hs) = ap (λ (l : List Request). with_hashes l (without_first hs)) out ∙ ap (with_hashes rs) (without_first_lem hs (omega (arith, g.hashed))) ∙ hashes_behind rs (list.drop 32 hs) (replicate 32 0) (omega (arith, few, length-drop 32 hs, g.hashed)) in
      record {
        sound = record { good = good_without k r rs g.good e; hashed = length_hashes hs g.hashed };
        keeps = λ es.
            let first : kept (was ∷ es) (with_hashes (r ∷ rs) hs) ≡ kept (was ∷ es) (with_hashes rs (list.drop 32 hs)) = rw (eq-eqb x.id r.id (sym same)) in
            ap (kept es) rest
            ∙ sym (kept_apart x.id was es rs (list.drop 32 hs) (λ i. refl) d)
            ∙ sym first
            ∙ ap (λ (l : List Request). kept (was ∷ es) (with_hashes l hs)) (sym e)
            ∙ sym (append-nil (kept (was ∷ es) (asked_in q)));
      }

moved_answer : (q : Hashed) (m : List ℕ) → Sound q
    → Moved q (answer_was (response_in (message_in E.New m)) (arrival_of q.hashes m (answered_by q.link (response_in (message_in E.New m))).release)) (hashed_answered q.hashes (answered_by q.link (response_in (message_in E.New m))))
moved_answer q m g = go (response_in (message_in E.New m)) (answered_by q.link (response_in (message_in E.New m))) (answer_was_lem q.link (response_in (message_in E.New m)))
  where
    go : (y : Result ResponseIn Refusal) (a : LinkAnswered) → AnswerWas q.link y a → Moved q (answer_was y (arrival_of q.hashes m a.release)) (hashed_answered q.hashes a)
    go y a (refused_so r) = stays q (answer_was y (Err r)) g (λ i. refl) refl
    go y a (freed x r rs k o s) =
        subst (λ (z : Result ResponseIn Refusal). Moved q (answer_was z (arrival_of q.hashes m (Ok (released r x.response.«data»)))) (hashed_answered q.hashes a)) (sym k)
        (moved_oldest q m x r rs o g s)

moved_drop : (q : Hashed) → Sound q → Moved q (drop_was true) (record { link = emptied q.link; hashes = no_hashes })
moved_drop q g =
    record {
      sound = record { good = good_emptied q.link g.good; hashed = refl };
      keeps = λ es. sym (append-nil (kept (drop_was true ∷ es) (asked_in q)) ∙ kept_dropped (drop_was true) es (asked_in q) (λ id. refl));
    }

moved : (q : Hashed) (c : LinkCall) → Sound q → Moved q (event q c) (after_call q c)
moved q (issue held limit r n o size h room) g = moved_issue held limit q r n o size h room (in_room room (issuing held limit q.link (request_bytes E.New r n o size h) size)) refl g
moved q (answer m) g = moved_answer q m g
moved q drop g = moved_drop q g

-- any calls

pub link_run : (cs : List LinkCall) (q : Hashed) → Sound q
    → Sound (final q cs) × (asked_in (final q cs) ≡ kept (history q cs) (asked_in q) ++ standing (history q cs))
link_run [] q g = (g, sym (append-nil (kept [] (asked_in q)) ∙ kept_all (asked_in q)))
  where
    kept_all : (rs : List Asked) → kept [] rs ≡ rs
    kept_all [] = refl
    kept_all (r ∷ rs) = ap (λ (l : List Asked). r ∷ l) (kept_all rs)
link_run (c ∷ cs) q g =
    let m : Moved q (event q c) (after_call q c) = moved q c g in
    let es : List Event = history (after_call q c) cs in
    let h = link_run cs (after_call q c) m.sound in (
      h.0,
      h.1
          ∙ ap (λ (l : List Asked). l ++ standing es) (m.keeps es)
          ∙ append_assoc (kept (event q c ∷ es) (asked_in q)) (kept es (issued (event q c))) (standing es),
    )

pub opened_good : (w : ℕ) → window_fits w ≡ true → Good (empty_link w)
opened_good w f =
    let v = both (leb 1 w) (leb w 16) f in
    record {
      orderly = orderly_made (empty_link w) (record { low = leb-true 1 w v.0; high = leb-true w 16 v.1; held = omega arith; next_id = omega arith; ordered = refl });
      long = refl;
    }

-- the window stays
window_kept : (c : LinkCall) (q : Hashed) → (after_call q c).link.window ≡ q.link.window
window_kept (issue held limit r n o size h room) q = go (in_room room (issuing held limit q.link (request_bytes E.New r n o size h) size))
  where
    go : (x : Outcome) → (issued_link q.link size x).window ≡ q.link.window
    go (gives l) = refl
    go (refuses k p) = refl
window_kept (answer m) q = go (answered_by q.link (response_in (message_in E.New m))) (answer_was_lem q.link (response_in (message_in E.New m)))
  where
    go : (a : LinkAnswered) → AnswerWas q.link (response_in (message_in E.New m)) a → a.link.window ≡ q.link.window
    go a (refused_so r) = refl
    go a (freed x r rs k o s) = refl
window_kept drop q = refl

pub windows_kept : (cs : List LinkCall) (q : Hashed) → (final q cs).link.window ≡ q.link.window
windows_kept [] q = refl
windows_kept (c ∷ cs) q = windows_kept cs (after_call q c) ∙ window_kept c q

-- the IDs issued follow one another from the next ID on: no other call than an accepted issue takes one

next_answered : (q : Link) (m : Result ResponseIn Refusal) → (answered_by q m).link.next ≡ q.next
next_answered q m = go (answered_by q m) (answer_was_lem q m)
  where
    go : (a : LinkAnswered) → AnswerWas q m a → a.link.next ≡ q.next
    go a (refused_so r) = refl
    go a (freed x r rs k o s) = refl

pub ids_follow : (cs : List LinkCall) (q : Hashed) → issued_ids (history q cs) ≡ ids_from q.link.next (length (issued_ids (history q cs)))
ids_follow [] q = refl
ids_follow (issue held limit r n o size h room ∷ cs) q = go (in_room room (issuing held limit q.link (request_bytes E.New r n o size h) size)) (λ p. ids_follow cs p)
  where
    go : (x : Outcome) → ((p : Hashed) → issued_ids (history p cs) ≡ ids_from p.link.next (length (issued_ids (history p cs))))
        → issued_ids (issue_was q.link.next size h x ∷ history (hashed_issued q size h x) cs) ≡ ids_from q.link.next (length (issued_ids (issue_was q.link.next size h x ∷ history (hashed_issued q size h x) cs)))
    go (gives l) ih = ap (λ (ids : List ℕ). q.link.next ∷ ids) (ih (hashed_issued q size h (gives l)))
    go (refuses k p) ih = ih q
ids_follow (answer m ∷ cs) q =
    ids_follow cs (after_call q (answer m)) ∙ ap (λ (k : ℕ). ids_from k (length (issued_ids (history (after_call q (answer m)) cs)))) (next_answered q.link (response_in (message_in E.New m)))
ids_follow (drop ∷ cs) q = ids_follow cs (after_call q drop)
