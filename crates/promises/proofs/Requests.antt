-- After any calls from an accepted opening each peer's list is exactly the requests issued for it and since then neither answered nor dropped for it,
-- each with the hash asked for; a peer's own calls and the totals that it finds decide what it is told; and freed room can be issued by anyone.
use Rattle.std.specs.Prelude.{Ok, Err, None}
use Rattle.std.specs.declared.option.Option.{Option}
use Prim.Native.Nat.{ℕ, zero, suc, ◌+◌, ◌-◌, ◌≤◌, ◌<◌}
use native.Mathlib.Omega.{arith}
use mathlib.Core.Path.{◌≡◌, refl, sym, ap, subst, ◌∙◌}
use mathlib.Core.Bool.{Bool, true, false, ◌||◌}
use mathlib.Core.List.{List, [], ◌∷◌, ◌++◌, map}
use lib.ListN.{length, get_or}
use lib.Seq.{length-take-le}
use lib.Dec.{eqb}
use borrow.Author.Tests.{le-leb, lt-leb, eqb-true, eqb-false}
use Rattle.xdr.specs.Answers.{at_start}
use Rattle.xdr.specs.Filling.{Outcome, refuses, in_room}
use Rattle.message.specs.Message.{message}
use Rattle.message.specs.Answers.{message_in}
use Rattle.message.specs.Kinds.{response_in}
use Rattle.message.specs.declared.edition.Edition.TheVariants as E
use Rattle.message_write.specs.Writing.{request_bytes, writing}
use Rattle.link.specs.Requests.{total}
use Rattle.link.specs.OneLink.{window_fits, outstanding, empty_link}
use Rattle.link.specs.Hashes.{Asked, with_hashes, total_asked}
use Rattle.link.specs.History as link
use Rattle.link.specs.History.{Hashed, LinkCall, Event, issue_was, answer_was, drop_was, standing, issued_ids, ids_from}
use Rattle.link.specs.declared.list.Link.{Link}
use Rattle.link.specs.declared.outcome.Arrival.TheVariants as A
use Rattle.link.proofs.RequestLaws.{both}
use Rattle.link.proofs.LinkLaws.{Orderly, orderly_facts}
use Rattle.link.proofs.Moves.{Good}
use Rattle.link.proofs.AskedLaws.{length_asked, total_asked_lem}
use Rattle.link.proofs.HistoryLaws.{asked_in, link_run, opened_good, windows_kept, ids_follow}
use Rattle.queue.specs.Queue.{allowance, window_of, all_fit, unused, opening, is_peer, link_of, hashes_of, peer_of, common, is_sound, issue_outcome, id_of, answer_of, drop_of}
use Rattle.queue.specs.declared.queue.RequestQueue.{RequestQueue}
use Rattle.queue.specs.declared.outcome.Emptied.{Emptied}
use Rattle.queue.specs.declared.outcome.Answered.{Answered}
use Rattle.queue.proofs.QueueLaws.{at_23, Admitted, orderly_link}
use Rattle.queue.proofs.CallLaws.{same_issue, issue_23, answer_23, drop_23}
use Rattle.queue.proofs.PeerLaws.{hashes_long, common_four, opened_fits, opened_none, opened_sized, opened_peer}
use Rattle.promises.specs.History.{Call, issue, answer, drop, PeerCall, is_accepted, queue_after, queue_event, queue_final, FoundCall, calls_of, events_of}
use Rattle.promises.specs.History.{window_at, reached, asked_of, standing_for, Held, SameRuns, drops, among}
use Rattle.promises.proofs.PeerRuns.{link_calls, Well, well_sound, own, others_stay, well_after, well_final, PeerRun, next, calls_by, events_by, peer_run}

-- an accepted opening

-- each window fits, and so does the default
fits_at : (ws : List (Option ℕ)) (i : ℕ) → all_fit ws ≡ true → window_fits (window_of (get_or ws i None)) ≡ true
fits_at [] i f = refl
fits_at (w ∷ ws) zero f = (both (window_fits (window_of w)) (all_fit ws) f).0
fits_at (w ∷ ws) (suc i) f = fits_at ws i (both (window_fits (window_of w)) (all_fit ws) f).1

module _ (ws : List (Option ℕ)) (four : length ws ≡ 4) (accepted : (opening ws).verdict ≡ Ok tt) where
  abbrev start : RequestQueue
  start = (opening ws).queue

  opened_link : (p : ℕ) → is_peer p ≡ true → link_of start p ≡ empty_link (window_at ws p)
  opened_link p e = ap (λ (x : Hashed). x.link) (opened_peer ws accepted four p e)

  pub opened_well : Well start
  opened_well =
      record {
        sized = opened_sized ws accepted four;
        sound = λ p e. record {
          good = subst Good (sym (opened_link p e)) (opened_good (window_at ws p) (fits_at ws (p - 1) (opened_fits ws accepted)));
          hashed = hashes_long start (opened_sized ws accepted four) p e;
        };
        within = omega (arith, opened_none ws accepted);
      }

  module _ (cs : List PeerCall) where
    abbrev end : RequestQueue
    end = reached ws cs

    pub ended : Well end
    ended = well_final cs start opened_well

    module _ (p : ℕ) (e : is_peer p ≡ true) where
      abbrev told : List LinkCall
      told = link_calls (calls_of p start cs)

      run : PeerRun p start cs
      run = peer_run p e cs start opened_well

      exactly : asked_of end p ≡ standing_for ws cs p
      exactly =
          ap asked_in run.ends
          ∙ (link_run told (peer_of start p) (opened_well.sound p e)).1
          ∙ ap (λ (l : Link). link.kept (link.history (peer_of start p) told) (with_hashes (outstanding l) (hashes_of start p)) ++ standing (link.history (peer_of start p) told)) (opened_link p e)
          ∙ ap standing (sym run.tells)

      few : length (standing_for ws cs p) ≤ window_at ws p
      few =
          let l : Link = link_of end p in
          let g : Good l = (ended.sound p e).good in
          let s : Orderly l = orderly_facts l g.orderly in
          let n : length (asked_of end p) ≡ l.count = length_asked (outstanding l) (hashes_of end p) ∙ length-take-le l.count l.entries (omega (arith, g.long)) in
          let w : l.window ≡ window_at ws p = ap (λ (x : Hashed). x.link.window) run.ends ∙ windows_kept told (peer_of start p) ∙ ap (λ (x : Link). x.window) (opened_link p e) in
          subst (λ (rs : List Asked). length rs ≤ window_at ws p) exactly (omega (arith, n, w, s.held))

      numbered : issued_ids (events_of p start cs) ≡ ids_from 0 (length (issued_ids (events_of p start cs)))
      numbered =
          subst (λ (es : List Event). issued_ids es ≡ ids_from 0 (length (issued_ids es))) (sym run.tells)
          (ids_follow told (peer_of start p) ∙ ap (λ (l : Link). ids_from l.next (length (issued_ids (link.history (peer_of start p) told)))) (opened_link p e))

      bytes : total (outstanding (link_of end p)) ≡ total_asked (standing_for ws cs p)
      bytes = sym (total_asked_lem (outstanding (link_of end p)) (hashes_of end p)) ∙ ap total_asked exactly

    pub held : Held ws cs
    held =
        record {
          exact = exactly;
          counted = few;
          ids = numbered;
          summed = common_four end ended.sized ∙ rw (bytes 1 refl, bytes 2 refl, bytes 3 refl, bytes 4 refl) refl;
          within = ended.within;
          sound = well_sound end ended;
        }

-- a number that is no peer's is told 23 by any queue, which stays as it is
pub no_peer_told : (q : RequestQueue) (p : ℕ) → is_peer p ≡ false
    → ((b : List ℕ) (size : ℕ) → issue_outcome q p b size ≡ refuses 23 0)
    × ((m : List ℕ) → answer_of q p m ≡ record { queue = q; arrival = Err (at_start 23) }) × (drop_of q p ≡ record { queue = q; verdict = Err (at_start 23) })
no_peer_told q p h = (issue_23 q p h, answer_23 q p h, drop_23 q p h)

abbrev told_no : Call → Event
told_no (issue r n o size i room) = issue_was 0 size i (refuses 23 0)
told_no (answer s) = answer_was (response_in (message_in E.New s)) (Err (at_start 23))
told_no drop = drop_was false

module _ (p : ℕ) (h : is_peer p ≡ false) where
  no_event : (q : RequestQueue) (c : Call) → queue_event q p c ≡ told_no c
  no_event q (issue r n o size i room) =
      ap (λ (x : Outcome). issue_was (id_of q p) size i (in_room room x)) (issue_23 q p h (request_bytes E.New r n o size i) size)
      ∙ ap (λ (k : ℕ). issue_was k size i (refuses 23 0)) (at_23 p (link_of q p).next 0 h)
  no_event q (answer s) = ap (λ (x : Answered). answer_was (response_in (message_in E.New s)) x.arrival) (answer_23 q p h s)
  no_event q drop = ap (λ (x : Emptied). drop_was (is_accepted x.verdict)) (drop_23 q p h)

  no_events : (cs : List PeerCall) (q : RequestQueue) → events_of p q cs ≡ map (λ (c : FoundCall). told_no c.call) (calls_of p q cs)
  no_events [] q = refl
  no_events (c ∷ cs) q = go (eqb c.peer p) refl (no_events cs (next q c))
    where
      go : (t : Bool) → eqb c.peer p ≡ t → events_of p (next q c) cs ≡ map (λ (k : FoundCall). told_no k.call) (calls_of p (next q c) cs)
          → events_by p c cs q t ≡ map (λ (k : FoundCall). told_no k.call) (calls_by p c cs q t)
      go true f ih =
          ap (λ (i : ℕ). queue_event q i c.call ∷ events_of p (next q c) cs) (eqb-true c.peer p f)
          ∙ ap (λ (v : Event). v ∷ events_of p (next q c) cs) (no_event q c.call)
          ∙ ap (λ (vs : List Event). told_no c.call ∷ vs) ih
      go false f ih = ih

-- two runs: the same window, the same calls, the same totals found, and so the same answers and written bytes

-- from any two such queues in which the peer has the same link and hashes
pub same_told : (p : ℕ) → is_peer p ≡ true → (q s : RequestQueue) → Well q → Well s → peer_of q p ≡ peer_of s p → (cs ds : List PeerCall)
    → calls_of p q cs ≡ calls_of p s ds → events_of p q cs ≡ events_of p s ds
same_told p e q s w v l cs ds a =
    (peer_run p e cs q w).tells
    ∙ ap (λ (x : Hashed). link.history x (link_calls (calls_of p q cs))) l
    ∙ ap (λ (x : List FoundCall). link.history (peer_of s p) (link_calls x)) a
    ∙ sym (peer_run p e ds s v).tells

-- the number may be any, a peer's or not
pub two_runs : (v w : List (Option ℕ)) → length v ≡ 4 → length w ≡ 4 → (opening v).verdict ≡ Ok tt → (opening w).verdict ≡ Ok tt
    → (cs ds : List PeerCall) (p : ℕ) → SameRuns v w cs ds p → events_of p (opening v).queue cs ≡ events_of p (opening w).queue ds
two_runs v w lv lw av aw cs ds p s = go (is_peer p) refl
  where
    go : (t : Bool) → is_peer p ≡ t → events_of p (opening v).queue cs ≡ events_of p (opening w).queue ds
    go true e =
        let alike : peer_of (opening v).queue p ≡ peer_of (opening w).queue p =
        opened_peer v av lv p e ∙ ap (λ (k : ℕ). record { link = empty_link k; hashes = hashes_of (unused []) p }) s.window ∙ sym (opened_peer w aw lw p e) in
        same_told p e (opening v).queue (opening w).queue (opened_well v lv av) (opened_well w lw aw) alike cs ds s.calls
    go false h =
        no_events p h cs (opening v).queue ∙ ap (map (λ (k : FoundCall). told_no k.call)) s.calls ∙ sym (no_events p h ds (opening w).queue)

-- a drop frees the peer's requests, and no others (`others_stay`)
pub drop_frees : (q : RequestQueue) → Well q → (p : ℕ) → is_peer p ≡ true → asked_of (queue_after q p drop) p ≡ []
drop_frees q w p e = ap asked_in (own q w p drop e)

-- after a drop of every peer the whole allowance is free

module _ (p : ℕ) (e : is_peer p ≡ true) where
  abbrev gone : RequestQueue → Type 0
  gone q = asked_of q p ≡ []

  frees : (q : RequestQueue) → Well q → (s : ℕ) → eqb s p ≡ true → gone (queue_after q s drop)
  frees q w s f = subst (λ (i : ℕ). gone (queue_after q i drop)) (sym (eqb-true s p f)) (drop_frees q w p e)

  stays : (q : RequestQueue) → Well q → (s : ℕ) → gone q → gone (queue_after q s drop)
  stays q w s h = go (eqb s p) refl
    where
      go : (t : Bool) → eqb s p ≡ t → gone (queue_after q s drop)
      go true f = frees q w s f
      go false f = ap asked_in (others_stay q w p s drop e (eqb-false s p f)) ∙ h

  -- gone before, or dropped among them
  dropped : (ps : List ℕ) (t : Bool) (q : RequestQueue) → Well q → (t ≡ true → gone q) → (t || among p ps) ≡ true → gone (queue_final q (drops ps))
  dropped [] true q w h a = h refl
  dropped [] false q w h a = let z : ◌≡◌ {A = ℕ} 0 1 = cc in absurd (omega arith)
  dropped (s ∷ ps) true q w h a = dropped ps true (queue_after q s drop) (well_after q w s drop) (λ z. stays q w s (h refl)) refl
  dropped (s ∷ ps) false q w h a = dropped ps (eqb s p) (queue_after q s drop) (well_after q w s drop) (frees q w s) a

-- after any calls from an accepted opening, drops of any numbers in any order and as often as one likes, among which 1, 2, 3 and 4 stand
pub whole_allowance_free : (ws : List (Option ℕ)) → length ws ≡ 4 → (opening ws).verdict ≡ Ok tt → (cs : List PeerCall) (ps : List ℕ)
    → among 1 ps ≡ true → among 2 ps ≡ true → among 3 ps ≡ true → among 4 ps ≡ true → common (queue_final (reached ws cs) (drops ps)).links ≡ 0
whole_allowance_free ws four accepted cs ps a b c d =
    common_four end (well_final (drops ps) (reached ws cs) begun).sized ∙ rw (none 1 refl a, none 2 refl b, none 3 refl c, none 4 refl d) refl
  where
    begun : Well (reached ws cs)
    begun = ended ws four accepted cs

    end : RequestQueue
    end = queue_final (reached ws cs) (drops ps)

    none : (p : ℕ) → is_peer p ≡ true → among p ps ≡ true → total (outstanding (link_of end p)) ≡ 0
    none p e f =
        sym (total_asked_lem (outstanding (link_of end p)) (hashes_of end p))
        ∙ ap total_asked (dropped p e ps false (reached ws cs) begun (λ z. let y : ◌≡◌ {A = ℕ} 0 1 = cc in absurd (omega arith)) f)

-- free room can be issued by any peer whose window has a place: neither 16 nor 17 stands against it, and the writing alone decides
pub anyone_may_issue : (q : RequestQueue) (p : ℕ) (b : List ℕ) (size : ℕ) → length q.links ≡ 4 → is_peer p ≡ true → is_sound q ≡ true
    → (link_of q p).count < (link_of q p).window → common q.links + size ≤ allowance → issue_outcome q p b size ≡ writing (message E.New) (link_of q p).next 2 b
anyone_may_issue q p b size four e s below bytes =
    let h : Admitted q p = record { peer = e; sound = s } in
    let f : Orderly (link_of q p) = orderly_facts (link_of q p) (orderly_link q p h four) in
    same_issue q p h b size
    ∙ simp (lt-leb (link_of q p).window (link_of q p).count below, lt-leb 16 (link_of q p).count (omega (arith, below, f.high)), le-leb (common q.links + size) allowance bytes)
