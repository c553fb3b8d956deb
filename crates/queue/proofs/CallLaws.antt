-- What a call for a peer gives, by the admission, by its link's own call and by what becomes of its hashes.
use Rattle.std.specs.Prelude.{Ok, Err}
use Rattle.std.specs.declared.result.Result.{Result}
use Prim.Native.Nat.{ℕ, zero, suc, ◌-◌, ◌*◌}
use mathlib.Core.Path.{◌≡◌, refl, sym, ap, ◌∙◌}
use mathlib.Core.Bool.{false, cond}
use mathlib.Core.List.{List, [], ◌∷◌}
use lib.ListN.{length, get_or, set}
use Rattle.xdr.specs.Answers.{at_start}
use Rattle.xdr.specs.Filling.{Outcome, gives, refuses, in_room, filling_answer}
use Rattle.xdr.specs.declared.answer.Refusal.{Refusal}
use Rattle.xdr.proofs.FillingLaws.{fills_same, fills_refused}
use Rattle.message.specs.Answers.{message_in}
use Rattle.message.specs.Kinds.{response_in}
use Rattle.message.specs.declared.edition.Edition.TheVariants as E
use Rattle.link.specs.OneLink.{issuing, issued_link, Issues, answered_by, emptied}
use Rattle.link.specs.Hashes.{no_hashes, hashes_issued, hashes_released, arrival_of}
use Rattle.link.specs.Steps.{hashes_filled}
use Rattle.link.specs.History.{hashed_issued}
use Rattle.link.specs.declared.list.Link.{Link}
use Rattle.link.specs.declared.outcome.LinkIssued.{LinkIssued}
use Rattle.link.specs.declared.outcome.LinkAnswered.{LinkAnswered}
use Rattle.link.specs.declared.outcome.Arrival.{Arrival}
use Rattle.queue.specs.Shares.{with_share}
use Rattle.queue.specs.Queue.{allowance, hash_bytes, is_peer, link_of, no_link, hashes_of, peer_of, with_peer, common, is_sound, issue_outcome, issued_queue, id_of, PeerIssues, answered_for, answer_of, without, drop_of}
use Rattle.queue.specs.Steps.{admission, kept_for, arrival_for, released_for, forgotten_for}
use Rattle.queue.specs.declared.queue.RequestQueue.{RequestQueue}
use Rattle.queue.specs.declared.outcome.Emptied.{Emptied}
use Rattle.queue.specs.declared.outcome.Answered.{Answered}
use Rattle.queue.proofs.ShareLaws.{share_same}
use Rattle.queue.proofs.QueueLaws.{past_23, at_23, Admitted, Held, goes_on, stops}

-- a link put back where it was
set_same : {A : Type 0} (d : A) (l : List A) (i : ℕ) → set l i (get_or l i d) ≡ l
set_same d [] i = refl
set_same d (x ∷ l) zero = refl
set_same d (x ∷ l) (suc i) = ap (λ (r : List _). x ∷ r) (set_same d l i)

abbrev queue_with : List Link → List ℕ → RequestQueue
queue_with ls hs = record { links = ls; hashes = hs }

-- a peer's link and hashes put back where they were
pub same_peer : (q : RequestQueue) (p : ℕ) → with_peer q p (peer_of q p) ≡ q
same_peer q p =
    ap (λ (ls : List Link). queue_with ls (with_share hash_bytes q.hashes p (hashes_of q p))) (set_same no_link q.links (p - 1))
    ∙ ap (queue_with q.links) (share_same hash_bytes (hash_bytes * (p - 1)) q.hashes)

-- an issue, by what it makes of the peer's link and hashes
pub issued_peer : (q : RequestQueue) (p size : ℕ) (hash : List ℕ) (x : Outcome) → with_peer q p (hashed_issued (peer_of q p) size hash x) ≡ issued_queue q p size hash x
issued_peer q p size hash (gives l) = refl
issued_peer q p size hash (refuses k n) = same_peer q p

-- the hashes by a writer's answer are those by what it had to write
hashes_filled_lem : (hs : List ℕ) (i : ℕ) (h : List ℕ) (x : Outcome) {w : Result ℕ Refusal} → w ≡ filling_answer x → hashes_filled hs i h w ≡ hashes_issued hs i h x
hashes_filled_lem hs i h (gives l) e = ap (hashes_filled hs i h) e
hashes_filled_lem hs i h (refuses k p) e = ap (hashes_filled hs i h) e

-- a call that goes on past 23 and 22, and one that 23 stops

module _ (q : RequestQueue) (p : ℕ) where
  abbrev pub answered_in : (m : List ℕ) → LinkAnswered
  answered_in m = answered_by (link_of q p) (response_in (message_in E.New m))

  abbrev pub refused_answer : Refusal → Answered
  refused_answer r = record { queue = q; arrival = Err r }

  abbrev pub dropped : Emptied
  dropped = record { queue = without q p; verdict = Ok tt }

  abbrev pub refused_drop : Refusal → Emptied
  refused_drop r = record { queue = q; verdict = Err r }

  module _ (h : Admitted q p) where
    pub same_issue : (b : List ℕ) (size : ℕ) → issue_outcome q p b size ≡ issuing (common q.links) allowance (link_of q p) b size
    same_issue b size = goes_on q p (issuing (common q.links) allowance (link_of q p) b size) (λ (k : ℕ). refuses k 0) h

    pub same_answer : (m : List ℕ) → answer_of q p m ≡ answered_for q p m (answered_in m)
    same_answer m = goes_on q p (answered_for q p m (answered_in m)) (λ (k : ℕ). refused_answer (at_start k)) h

    pub same_drop : drop_of q p ≡ dropped
    same_drop = goes_on q p dropped (λ (k : ℕ). refused_drop (at_start k)) h

  module _ (h : is_peer p ≡ false) where
    pub issue_23 : (b : List ℕ) (size : ℕ) → issue_outcome q p b size ≡ refuses 23 0
    issue_23 b size = at_23 p (cond (is_sound q) (issuing (common q.links) allowance (link_of q p) b size) (refuses 22 0)) (refuses 23 0) h

    pub answer_23 : (m : List ℕ) → answer_of q p m ≡ refused_answer (at_start 23)
    answer_23 m = at_23 p (cond (is_sound q) (answered_for q p m (answered_in m)) (refused_answer (at_start 22))) (refused_answer (at_start 23)) h

    pub drop_23 : drop_of q p ≡ refused_drop (at_start 23)
    drop_23 = at_23 p (cond (is_sound q) dropped (refused_drop (at_start 22))) (refused_drop (at_start 23)) h

-- an issue

module _ (q : RequestQueue) (p : ℕ) (b : List ℕ) (size : ℕ) (hash out : List ℕ) where
  pub issue_stopped : {i : ℕ} {r : Refusal} → Err r ≡ admission q p → i ≡ id_of q p
      → PeerIssues (issue_outcome q p b size) q p size hash out (record { queue = q; id = i; filling = Err r }) out
  issue_stopped {i} {r} e n =
      let same : issue_outcome q p b size ≡ refuses r.number r.place = sym (stops q p (issuing (common q.links) allowance (link_of q p) b size) (λ (x : Refusal). refuses x.number x.place) r e) in
      record {
        fills = fills_refused out same refl;
        id = n;
        queue = ap (λ (o : Outcome). issued_queue q p size hash (in_room (length out) o)) (sym same);
      }

  pub issue_done : {n : ℕ} {x : LinkIssued} {o hs : List ℕ} → Held q p n → Issues (issuing n allowance (link_of q p) b size) (link_of q p) size out x o
      → hs ≡ kept_for q.hashes p (link_of q p).count hash x.filling
      → PeerIssues (issue_outcome q p b size) q p size hash out
      (record { queue = record { links = set q.links (p - 1) x.link; hashes = hs }; id = x.id; filling = x.filling }) o
  issue_done {n} {x} {o} {hs} h f g =
      let same : issuing n allowance (link_of q p) b size ≡ issue_outcome q p b size =
      ap (λ (m : ℕ). issuing m allowance (link_of q p) b size) h.bytes ∙ sym (same_issue q p h.may b size) in
      let v : Outcome = in_room (length out) (issue_outcome q p b size) in
      let link_is : x.link ≡ issued_link (link_of q p) size v = f.link ∙ ap (λ (y : Outcome). issued_link (link_of q p) size (in_room (length out) y)) same in
      let filling-is : x.filling ≡ filling_answer v = f.fills.answered ∙ ap (λ (y : Outcome). filling_answer (in_room (length out) y)) same in
      let hashes_are : hs ≡ with_share hash_bytes q.hashes p (hashes_issued (hashes_of q p) (link_of q p).count hash v) =
      g
      ∙ past_23 p (with_share hash_bytes q.hashes p (hashes_filled (hashes_of q p) (link_of q p).count hash x.filling)) q.hashes h.may.peer
      ∙ ap (with_share hash_bytes q.hashes p) (hashes_filled_lem (hashes_of q p) (link_of q p).count hash v filling-is) in
      record {
        fills = fills_same out (sym same) f.fills;
        id = f.id ∙ sym (past_23 p (link_of q p).next 0 h.may.peer);
        queue = ap (λ (l : Link). queue_with (set q.links (p - 1) l) hs) link_is
            ∙ ap (queue_with (set q.links (p - 1) (issued_link (link_of q p) size v))) hashes_are
            ∙ issued_peer q p size hash v;
      }

-- an answer, and a drop

module _ (q : RequestQueue) (p : ℕ) where
  pub answer_stopped : (m : List ℕ) {r : Refusal} → Err r ≡ admission q p → refused_answer q p r ≡ answer_of q p m
  answer_stopped m {r} e = stops q p (answered_for q p m (answered_in q p m)) (refused_answer q p) r e

  pub answer_done : (m : List ℕ) {x : LinkAnswered} {v : Result Arrival Refusal} {hs : List ℕ} → Admitted q p → x ≡ answered_in q p m
      → (v ≡ arrival_for q.hashes p m x.release) × (hs ≡ released_for q.hashes p x.release)
      → record { queue = record { links = set q.links (p - 1) x.link; hashes = hs }; arrival = v } ≡ answer_of q p m
  answer_done m {x} {v} {hs} h f g =
      let arrival-is : v ≡ arrival_of (hashes_of q p) m x.release = g.0 ∙ past_23 p (arrival_of (hashes_of q p) m x.release) (Err (at_start 23)) h.peer in
      let hashes_are : hs ≡ with_share hash_bytes q.hashes p (hashes_released (hashes_of q p) x.release) =
      g.1 ∙ past_23 p (with_share hash_bytes q.hashes p (hashes_released (hashes_of q p) x.release)) q.hashes h.peer in
      ap (λ (y : Result Arrival Refusal). record { queue = queue_with (set q.links (p - 1) x.link) hs; arrival = y }) arrival-is
      ∙ ap (λ (y : List ℕ). record { queue = queue_with (set q.links (p - 1) x.link) y; arrival = arrival_of (hashes_of q p) m x.release }) hashes_are
      ∙ ap (answered_for q p m) f
      ∙ sym (same_answer q p h m)

  pub drop_stopped : {r : Refusal} → Err r ≡ admission q p → refused_drop q p r ≡ drop_of q p
  drop_stopped {r} e = stops q p (dropped q p) (refused_drop q p) r e

  pub drop_done : {l : Link} {hs : List ℕ} → Admitted q p → l ≡ emptied (link_of q p) → hs ≡ forgotten_for q.hashes p
      → record { queue = record { links = set q.links (p - 1) l; hashes = hs }; verdict = Ok tt } ≡ drop_of q p
  drop_done {l} {hs} h f g =
      let hashes_are : hs ≡ with_share hash_bytes q.hashes p no_hashes = g ∙ past_23 p (with_share hash_bytes q.hashes p no_hashes) q.hashes h.peer in
      ap (λ (y : Link). record { queue = queue_with (set q.links (p - 1) y) hs; verdict = Ok tt }) f
      ∙ ap (λ (y : List ℕ). record { queue = queue_with (set q.links (p - 1) (emptied (link_of q p))) y; verdict = Ok tt }) hashes_are
      ∙ sym (same_drop q p h)
