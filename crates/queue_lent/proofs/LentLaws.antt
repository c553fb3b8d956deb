-- What a call on a lent queue gives, by the admission, by the link's own call and by what becomes of the peer's shares.
use Rattle.std.specs.Prelude.{Ok, Err}
use Rattle.std.specs.declared.result.Result.{Result}
use Rattle.std.specs.declared.option.Option.{Option}
use Prim.Native.Nat.{ℕ, suc, ◌-◌, ◌*◌, ◌≤◌}
use native.Mathlib.Omega.{arith}
use mathlib.Core.Path.{◌≡◌, refl, sym, ap, subst, ◌∙◌}
use mathlib.Core.Bool.{Bool, true, false, cond}
use mathlib.Core.List.{List, [], ◌∷◌}
use lib.ListN.{length, set, replicate}
use Rattle.xdr.specs.Answers.{at_start}
use Rattle.xdr.specs.declared.answer.Refusal.{Refusal}
use Rattle.message.specs.Answers.{message_in}
use Rattle.message.specs.Kinds.{response_in}
use Rattle.message.specs.declared.edition.Edition.TheVariants as E
use Rattle.link.specs.OneLink.{empty_link, issuing, Issues, answered_by, emptied}
use Rattle.link.specs.declared.list.Link.{Link}
use Rattle.link.specs.declared.outcome.LinkIssued.{LinkIssued}
use Rattle.link.specs.declared.outcome.LinkAnswered.{LinkAnswered}
use Rattle.link.specs.declared.outcome.Arrival.{Arrival}
use Rattle.queue.specs.Shares.{share_of, with_share}
use Rattle.queue.specs.Queue.{allowance, peers, all_fit, empty_links, unused, opening, is_peer, link_of, is_sound, issue_outcome, PeerIssues, answer_of, drop_of, id_of}
use Rattle.queue.specs.Steps.{admission, kept_for, arrival_for, released_for, forgotten_for}
use Rattle.queue.specs.declared.queue.RequestQueue.{RequestQueue}
use Rattle.queue.specs.declared.outcome.Emptied.{Emptied}
use Rattle.queue.specs.declared.outcome.Issued.{Issued}
use Rattle.queue.specs.declared.outcome.Answered.{Answered}
use Rattle.queue.proofs.QueueLaws.{Held, held_tells, peer_facts}
use Rattle.queue.proofs.CallLaws.{issue_stopped, issue_done, answer_stopped, answer_done, drop_stopped, drop_done}
use Rattle.queue_lent.specs.Words.{link_size, link_in, links_in, queue_of, link_words}
use Rattle.queue_lent.specs.Calls.{Lends, LentEmpties, LentIssues, LentAnswers}
use Rattle.queue_lent.specs.Steps.{stored_all}
use Rattle.queue_lent.proofs.LaidLaws.{AllLong, laid_back, link_is, stored, four_stored}

-- a queue's hashes say nothing of whether a call may go on
same_admission : (ws hs : List ℕ) (p : ℕ) → admission (queue_of ws []) p ≡ admission (queue_of ws hs) p
unfolding is_sound
same_admission ws hs p = refl

module _ (ws hs : List ℕ) (long : length ws ≡ 140) (p : ℕ) where
  abbrev q : RequestQueue
  q = queue_of ws hs

  pub may : {n : ℕ} → Ok n ≡ admission (queue_of ws []) p → Held q p n
  may {n} e = held_tells q p n (e ∙ same_admission ws hs p)

  -- the share of a peer that is admitted is there
  pub share_there : {n : ℕ} → Ok n ≡ admission (queue_of ws []) p → (1 ≤ p) × (35 * p ≤ length ws)
  share_there e = let f = peer_facts p (may e).may.peer in (f.0, omega (arith, f.1, long))

  -- a queue that was handed back as it was
  as_it_was : Lends q ws hs
  as_it_was = record { words_are = sym (laid_back peers ws long); hashes_are = refl }

  -- one with another link and other hashes of the peer
  changed : (x : Link) {words hashes : List ℕ} → is_peer p ≡ true → words ≡ with_share link_size ws p (link_words x) → Lends (record { links = set (links_in peers ws) (p - 1) x; hashes = hashes }) words hashes
  changed x e w = record { words_are = w ∙ stored ws p x long e; hashes_are = refl }

  lent_same : {r s : RequestQueue} {words hashes : List ℕ} → r ≡ s → Lends r words hashes → Lends s words hashes
  lent_same {words = words} {hashes = hashes} e h = subst (λ (x : RequestQueue). Lends x words hashes) e h

  -- an issue
  module _ (b : List ℕ) (size : ℕ) (hash out : List ℕ) where
    issued : {r : Issued} {words hashes after : List ℕ} → PeerIssues (issue_outcome q p b size) q p size hash out r after → Lends r.queue words hashes
        → LentIssues ws hs p b size hash out (record { id = r.id; filling = r.filling }) words hashes after
    issued f l = record { fills = f.fills; id = f.id; queue = lent_same f.queue l }

    pub issue_refused : {i : ℕ} {r : Refusal} → Err r ≡ admission (queue_of ws []) p → i ≡ id_of (queue_of ws []) p
        → LentIssues ws hs p b size hash out (record { id = i; filling = Err r }) ws hs out
    issue_refused e n = issued (issue_stopped q p b size hash out (e ∙ same_admission ws hs p) n) as_it_was

    pub issue_made : {n : ℕ} {l : Link} {x : LinkIssued} {o words hashes : List ℕ} → Held q p n → l ≡ link_in (share_of link_size ws p) → Issues (issuing n allowance l b size) l size out x o
        → words ≡ with_share link_size ws p (link_words x.link) → hashes ≡ kept_for hs p l.count hash x.filling
        → LentIssues ws hs p b size hash out (record { id = x.id; filling = x.filling }) words hashes o
    issue_made {n} {l} {x} {o} h e f w g =
        let same : l ≡ link_of q p = e ∙ sym (link_is ws hs p h.may.peer) in
        issued
        (issue_done q p b size hash out h (subst (λ (y : Link). Issues (issuing n allowance y b size) y size out x o) same f) (g ∙ ap (λ (y : Link). kept_for hs p y.count hash x.filling) same))
        (changed x.link h.may.peer w)

  -- an answer
  module _ (m : List ℕ) where
    answered : {a : Answered} {words hashes : List ℕ} → a ≡ answer_of q p m → Lends a.queue words hashes → LentAnswers ws hs p m a.arrival words hashes
    answered e l = record { arrival = ap (λ (x : Answered). x.arrival) e; queue = lent_same (ap (λ (x : Answered). x.queue) e) l }

    pub answer_refused : {r : Refusal} → Err r ≡ admission (queue_of ws []) p → LentAnswers ws hs p m (Err r) ws hs
    answer_refused e = answered (answer_stopped q p m (e ∙ same_admission ws hs p)) as_it_was

    pub answer_made : {n : ℕ} {l : Link} {x : LinkAnswered} {v : Result Arrival Refusal} {words hashes : List ℕ} → Held q p n → l ≡ link_in (share_of link_size ws p) → x ≡ answered_by l (response_in (message_in E.New m))
        → words ≡ with_share link_size ws p (link_words x.link) → (v ≡ arrival_for hs p m x.release) × (hashes ≡ released_for hs p x.release) → LentAnswers ws hs p m v words hashes
    answer_made {x = x} h e f w g =
        answered
        (answer_done q p m h.may (f ∙ ap (λ (y : Link). answered_by y (response_in (message_in E.New m))) (e ∙ sym (link_is ws hs p h.may.peer))) g)
        (changed x.link h.may.peer w)

  -- a drop
  emptied_so : {d : Emptied} {words hashes : List ℕ} → d ≡ drop_of q p → Lends d.queue words hashes → LentEmpties (drop_of q p) d.verdict words hashes
  emptied_so e l = record { verdict = ap (λ (x : Emptied). x.verdict) e; queue = lent_same (ap (λ (x : Emptied). x.queue) e) l }

  pub drop_refused : {r : Refusal} → Err r ≡ admission (queue_of ws []) p → LentEmpties (drop_of q p) (Err r) ws hs
  drop_refused e = emptied_so (drop_stopped q p (e ∙ same_admission ws hs p)) as_it_was

  pub drop_made : {n : ℕ} {l m : Link} {words hashes : List ℕ} → Held q p n → l ≡ link_in (share_of link_size ws p) → m ≡ emptied l
      → words ≡ with_share link_size ws p (link_words m) → hashes ≡ forgotten_for hs p → LentEmpties (drop_of q p) (Ok tt) words hashes
  drop_made {m = m} h e f w g = emptied_so (drop_done q p h.may (f ∙ ap emptied (e ∙ sym (link_is ws hs p h.may.peer))) g) (changed m h.may.peer w)

-- an opening

empties_long : (ws : List (Option ℕ)) → AllLong (empty_links ws)
unfolding AllLong
empties_long [] = tt
empties_long (w ∷ ws) = (refl, empties_long ws)

empties_many : (ws : List (Option ℕ)) → length (empty_links ws) ≡ length ws
empties_many [] = refl
empties_many (w ∷ ws) = ap suc (empties_many ws)

module _ (windows : List (Option ℕ)) (four : length windows ≡ 4) where
  abbrev opened_by : Bool → Emptied
  opened_by t = cond t (record { queue = unused (empty_links windows); verdict = Ok tt }) (record { queue = unused (replicate peers (empty_link 0)); verdict = Err (at_start 22) })

  opened_long : (t : Bool) → AllLong (opened_by t).queue.links × (length (opened_by t).queue.links ≡ 4) × ((opened_by t).queue.hashes ≡ replicate 2048 0)
  unfolding AllLong
  opened_long true = (empties_long windows, empties_many windows ∙ four, refl)
  opened_long false = ((refl, (refl, (refl, (refl, tt)))), refl, refl)

  pub opened : {d : Emptied} (ws : List ℕ) {words : List ℕ} → length ws ≡ 140 → d ≡ opening windows → words ≡ stored_all ws d.queue.links → LentEmpties (opening windows) d.verdict words (replicate 2048 0)
  opened ws long e w =
      let o = opened_long (all_fit windows) in
      record {
        verdict = ap (λ (x : Emptied). x.verdict) e;
        queue = record {
          words_are = w ∙ ap (λ (x : Emptied). stored_all ws x.queue.links) e ∙ four_stored ws (opening windows).queue.links long o.1 o.0;
          hashes_are = sym o.2;
        };
      }
