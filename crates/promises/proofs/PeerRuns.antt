-- A peer's part of calls in a row is a run of its own link and hashes, in which each issue is told the total that the peer finds, and the allowance.
use Rattle.std.specs.declared.result.Result.{Result}
use Rattle.xdr.specs.declared.answer.Refusal.{Refusal}
use Prim.Native.Nat.{ℕ, ◌+◌, ◌-◌, ◌≤◌}
use native.Mathlib.Omega.{arith}
use mathlib.Core.Path.{◌≡◌, refl, sym, ap, subst, ◌∙◌}
use mathlib.Core.Bool.{Bool, true, false, cond}
use mathlib.Core.List.{List, [], ◌∷◌, ◌++◌}
use lib.Dec.{eqb}
use borrow.Author.Tests.{eqb-true, eqb-false}
use Rattle.xdr.specs.Filling.{Outcome, gives, refuses, in_room}
use Rattle.xdr.proofs.FillingLaws.{given_room}
use Rattle.message.specs.Answers.{message_in}
use Rattle.message.specs.Kinds.{response_in}
use Rattle.message.specs.declared.kind.ResponseIn.{ResponseIn}
use Rattle.message.specs.declared.edition.Edition.TheVariants as E
use Rattle.message_write.specs.Writing.{request_bytes}
use Rattle.link.specs.Requests.{total}
use Rattle.link.specs.OneLink.{outstanding, issuing, appended, issued_link, answered_by}
use Rattle.link.specs.History as link
use Rattle.link.specs.History.{Hashed, LinkCall, after_call, Event, issue_was, answer_was, drop_was}
use Rattle.link.specs.declared.list.Link.{Link}
use Rattle.link.specs.declared.outcome.LinkAnswered.{LinkAnswered}
use Rattle.link.proofs.LinkLaws.{Orderly, orderly_facts}
use Rattle.link.proofs.IssueLaws.{issuing_tells}
use Rattle.link.proofs.AnswerLaws.{AnswerWas, kept, freed, answer_was_lem}
use Rattle.link.proofs.Moves.{Good, next_request, outstanding_appended, total_append, outstanding_without}
use Rattle.link.proofs.HistoryLaws.{Sound, link_run}
use Rattle.queue.specs.Queue.{allowance, is_peer, link_of, peer_of, with_peer, common, is_sound, issued_queue, id_of}
use Rattle.queue.specs.declared.queue.RequestQueue.{RequestQueue}
use Rattle.queue.specs.declared.outcome.Emptied.{Emptied}
use Rattle.queue.specs.declared.outcome.Answered.{Answered}
use Rattle.queue.proofs.QueueLaws.{past_23, Admitted}
use Rattle.queue.proofs.CallLaws.{issued_peer, same_issue, same_answer, same_drop, issue_23, answer_23, drop_23}
use Rattle.queue.proofs.PeerLaws.{Sized, put_sized, put_own, put_other, common_put, common_own, sound_made}
use Rattle.promises.specs.History.{Call, issue, answer, drop, PeerCall, is_accepted, queue_after, queue_event, queue_final, FoundCall, calls_of, events_of}

-- a call as the peer's link sees it
abbrev pub link_call : (held : ℕ) → Call → LinkCall
link_call held (issue r n o size h room) = link.issue held allowance r n o size h room
link_call held (answer s) = link.answer s
link_call held drop = link.drop

abbrev pub link_calls : List FoundCall → List LinkCall
link_calls [] = []
link_calls (c ∷ cs) = link_call c.found c.call ∷ link_calls cs

-- one call for a peer is one on its link and hashes

module _ (q : RequestQueue) (p : ℕ) (h : Admitted q p) where
  same_after : (c : Call) → queue_after q p c ≡ with_peer q p (after_call (peer_of q p) (link_call (common q.links) c))
  same_after (issue r n o size i room) =
      ap (λ (x : Outcome). issued_queue q p size i (in_room room x)) (same_issue q p h (request_bytes E.New r n o size i) size)
      ∙ sym (issued_peer q p size i (in_room room (issuing (common q.links) allowance (link_of q p) (request_bytes E.New r n o size i) size)))
  same_after (answer s) = ap (λ (x : Answered). x.queue) (same_answer q p h s)
  same_after drop = ap (λ (x : Emptied). x.queue) (same_drop q p h)

  same_event : (c : Call) → queue_event q p c ≡ link.event (peer_of q p) (link_call (common q.links) c)
  same_event (issue r n o size i room) =
      ap (λ (x : Outcome). issue_was (id_of q p) size i (in_room room x)) (same_issue q p h (request_bytes E.New r n o size i) size)
      ∙ ap (λ (k : ℕ). issue_was k size i (in_room room (issuing (common q.links) allowance (link_of q p) (request_bytes E.New r n o size i) size))) (past_23 p (link_of q p).next 0 h.peer)
  same_event (answer s) = ap (λ (x : Answered). answer_was (response_in (message_in E.New s)) x.arrival) (same_answer q p h s)
  same_event drop = ap (λ (x : Emptied). drop_was (is_accepted x.verdict)) (same_drop q p h)

-- one for no peer changes nothing
nothing_after : (q : RequestQueue) (p : ℕ) → is_peer p ≡ false → (c : Call) → queue_after q p c ≡ q
nothing_after q p h (issue r n o size i room) = ap (λ (x : Outcome). issued_queue q p size i (in_room room x)) (issue_23 q p h (request_bytes E.New r n o size i) size)
nothing_after q p h (answer s) = ap (λ (x : Answered). x.queue) (answer_23 q p h s)
nothing_after q p h drop = ap (λ (x : Emptied). x.queue) (drop_23 q p h)

-- the total stays within the allowance: the bytes of the link that calls, beside those of the others

module _ (held others : ℕ) (q : Hashed) (sum : total (outstanding q.link) + others ≡ held) (below : held ≤ allowance) (g : Good q.link) where
  issue_within : (r n : List ℕ) (o size : ℕ) (h : List ℕ) (room : ℕ) (x : Outcome) → in_room room (issuing held allowance q.link (request_bytes E.New r n o size h) size) ≡ x
      → total (outstanding (issued_link q.link size x)) + others ≤ allowance
  issue_within r n o size h room (gives l) e =
      let k : Link = q.link in
      let s : Orderly k = orderly_facts k g.orderly in
      let a = issuing_tells held allowance k r n o size h l s (given_room room (issuing held allowance k (request_bytes E.New r n o size h) size) l e).0 in
      let out : outstanding (appended k size) ≡ outstanding k ++ (next_request k size ∷ []) = outstanding_appended k size (omega (arith, g.long, a.0, s.high)) in
      let t : total (outstanding (appended k size)) ≡ total (outstanding k) + size = ap total out ∙ total_append (outstanding k) (next_request k size) in
      omega (arith, t, a.2)
  issue_within r n o size h room (refuses k p) e = omega arith

  answer_within : (m : Result ResponseIn Refusal) → total (outstanding (answered_by q.link m).link) + others ≤ allowance
  answer_within m = go (answered_by q.link m) (answer_was_lem q.link m)
    where
      go : (a : LinkAnswered) → AnswerWas q.link m a → total (outstanding a.link) + others ≤ allowance
      go a (kept r) = omega arith
      go a (freed x r rs k o s) =
          let u : total (outstanding q.link) ≡ total (r ∷ rs) = ap total o in
          let t : total (outstanding a.link) ≡ total rs = ap total (outstanding_without q.link r rs g o) in
          omega (arith, u, t)

  call_within : (c : Call) → total (outstanding (after_call q (link_call held c)).link) + others ≤ allowance
  call_within (issue r n o size h room) = issue_within r n o size h room (in_room room (issuing held allowance q.link (request_bytes E.New r n o size h) size)) refl
  call_within (answer s) = answer_within (response_in (message_in E.New s))
  call_within drop = omega arith

-- a queue as the code can hold one, sound
pub record Well (q : RequestQueue) : Type 0 where
  pub sized : Sized q
  pub sound : (p : ℕ) → is_peer p ≡ true → Sound (peer_of q p)
  pub within : common q.links ≤ allowance

module _ (q : RequestQueue) (w : Well q) where
  pub well_sound : is_sound q ≡ true
  well_sound = sound_made q w.sized (λ p e. (w.sound p e).good.orderly) w.within

  pub admit : (p : ℕ) → is_peer p ≡ true → Admitted q p
  admit p e = record { peer = e; sound = well_sound }

  -- a call for a peer

  module _ (p : ℕ) (c : Call) (e : is_peer p ≡ true) where
    abbrev then : Hashed
    then = after_call (peer_of q p) (link_call (common q.links) c)

    then_sound : Sound then
    then_sound = (link_run (link_call (common q.links) c ∷ []) (peer_of q p) (w.sound p e)).0

    is_put : queue_after q p c ≡ with_peer q p then
    is_put = same_after q p (admit p e) c

    pub own : peer_of (queue_after q p c) p ≡ then
    own = ap (λ (x : RequestQueue). peer_of x p) is_put ∙ put_own q w.sized p e then then_sound.hashed

    put_apart : (s : ℕ) → is_peer s ≡ true → (s ≡ p → ⊥) → peer_of (queue_after q p c) s ≡ peer_of q s
    put_apart s f n = ap (λ (x : RequestQueue). peer_of x s) is_put ∙ put_other q w.sized p e then then_sound.hashed s f n

    well_peer : Well (queue_after q p c)
    well_peer =
        record {
          sized = subst Sized (sym is_put) (put_sized q w.sized p e then then_sound.hashed);
          sound = λ s f. by_peer s f (eqb s p) refl;
          within = subst (λ (x : RequestQueue). common x.links ≤ allowance) (sym is_put) bytes;
        }
      where
        by_peer : (s : ℕ) → is_peer s ≡ true → (t : Bool) → eqb s p ≡ t → Sound (peer_of (queue_after q p c) s)
        by_peer s f true i = subst (λ (k : ℕ). Sound (peer_of (queue_after q p c) k)) (sym (eqb-true s p i)) (subst Sound (sym own) then_sound)
        by_peer s f false i = subst Sound (sym (put_apart s f (eqb-false s p i))) (w.sound s f)

        bytes : common (with_peer q p then).links ≤ allowance
        bytes =
            let others : ℕ = common q.links - total (outstanding (link_of q p)) in
            let least : total (outstanding (link_of q p)) ≤ common q.links = common_own q w.sized p e in
            let t : total (outstanding then.link) + others ≤ allowance = call_within (common q.links) others (peer_of q p) (omega arith) w.within (w.sound p e).good c in
            let u = common_put q w.sized p e then in
            omega (arith, least, t, u)

  -- for any number

  pub well_after : (p : ℕ) (c : Call) → Well (queue_after q p c)
  well_after p c = go (is_peer p) refl
    where
      go : (t : Bool) → is_peer p ≡ t → Well (queue_after q p c)
      go true e = well_peer p c e
      go false e = subst Well (sym (nothing_after q p e c)) w

  -- a call for one leaves the others
  pub others_stay : (p s : ℕ) (c : Call) → is_peer p ≡ true → (s ≡ p → ⊥) → peer_of (queue_after q s c) p ≡ peer_of q p
  others_stay p s c e n = go (is_peer s) refl
    where
      go : (t : Bool) → is_peer s ≡ t → peer_of (queue_after q s c) p ≡ peer_of q p
      go true f = put_apart s c f p e (λ i. n (sym i))
      go false f = ap (λ (x : RequestQueue). peer_of x p) (nothing_after q s f c)

-- any calls

abbrev pub next : RequestQueue → PeerCall → RequestQueue
next q c = queue_after q c.peer c.call

pub well_final : (cs : List PeerCall) (q : RequestQueue) → Well q → Well (queue_final q cs)
well_final [] q w = w
well_final (c ∷ cs) q w = well_final cs (next q c) (well_after q w c.peer c.call)

pub record PeerRun (p : ℕ) (q : RequestQueue) (cs : List PeerCall) : Type 0 where
  pub ends : peer_of (queue_final q cs) p ≡ link.final (peer_of q p) (link_calls (calls_of p q cs))
  pub tells : events_of p q cs ≡ link.history (peer_of q p) (link_calls (calls_of p q cs))

-- one call before others: the peer's own, or another's
module _ (p : ℕ) (c : PeerCall) (cs : List PeerCall) (q : RequestQueue) where
  abbrev pub calls_by : (own : Bool) → List FoundCall
  calls_by t = cond t (record { found = common q.links; call = c.call } ∷ calls_of p (next q c) cs) (calls_of p (next q c) cs)

  abbrev pub events_by : (own : Bool) → List Event
  events_by t = cond t (queue_event q c.peer c.call ∷ events_of p (next q c) cs) (events_of p (next q c) cs)

  abbrev called : LinkCall
  called = link_call (common q.links) c.call

  joined : is_peer p ≡ true → Well q → (t : Bool) → eqb c.peer p ≡ t → PeerRun p (next q c) cs
      → (peer_of (queue_final q (c ∷ cs)) p ≡ link.final (peer_of q p) (link_calls (calls_by t))) × (events_by t ≡ link.history (peer_of q p) (link_calls (calls_by t)))
  joined e w true f h =
      let same : c.peer ≡ p = eqb-true c.peer p f in
      let after : peer_of (next q c) p ≡ after_call (peer_of q p) called = ap (λ (i : ℕ). peer_of (queue_after q i c.call) p) same ∙ own q w p c.call e in
      let was : queue_event q c.peer c.call ≡ link.event (peer_of q p) called =
      ap (λ (i : ℕ). queue_event q i c.call) same ∙ same_event q p (admit q w p e) c.call in (
        h.ends ∙ ap (λ (x : Hashed). link.final x (link_calls (calls_of p (next q c) cs))) after,
        ap (λ (v : Event). v ∷ events_of p (next q c) cs) was
            ∙ ap (λ (vs : List Event). link.event (peer_of q p) called ∷ vs) (h.tells ∙ ap (λ (x : Hashed). link.history x (link_calls (calls_of p (next q c) cs))) after),
      )
  joined e w false f h =
      let stays : peer_of (next q c) p ≡ peer_of q p = others_stay q w p c.peer c.call e (eqb-false c.peer p f) in (
        h.ends ∙ ap (λ (x : Hashed). link.final x (link_calls (calls_of p (next q c) cs))) stays,
        h.tells ∙ ap (λ (x : Hashed). link.history x (link_calls (calls_of p (next q c) cs))) stays,
      )

pub peer_run : (p : ℕ) → is_peer p ≡ true → (cs : List PeerCall) (q : RequestQueue) → Well q → PeerRun p q cs
peer_run p e [] q w = record { ends = refl; tells = refl }
peer_run p e (c ∷ cs) q w =
    let h = joined p c cs q e w (eqb c.peer p) refl (peer_run p e cs (next q c) (well_after q w c.peer c.call)) in
    record { ends = h.0; tells = h.1 }
