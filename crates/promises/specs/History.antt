-- Calls for peers in a row on one queue, each given the queue that the one before handed back, the part that one peer has in them, and what holds after
-- them; events are as in link's History.
use Rattle.std.specs.Prelude.{Err, None}
use Rattle.std.specs.declared.result.Result.{Result}
use Rattle.std.specs.declared.option.Option.{Option}
use Rattle.xdr.specs.declared.answer.Refusal.{Refusal}
use Rattle.std.specs.Prelude.{Ok}
use Rattle.std.specs.Prelude.{ℕ, ◌+◌, ◌-◌, ◌≤◌, Bool, true, false, cond, ◌||◌, List, [], ◌∷◌, ◌≡◌, length, get_or, eqb}
use Rattle.xdr.specs.Filling.{in_room}
use Rattle.message.specs.Answers.{message_in, span_bytes}
use Rattle.message.specs.Kinds.{response_in}
use Rattle.message.specs.declared.answer.Span.{Span}
use Rattle.message.specs.declared.answer.ResponseSpan.{ResponseSpan}
use Rattle.message.specs.declared.edition.Edition.TheVariants as E
use Rattle.message_write.specs.Writing.{request_bytes}
use Rattle.order.specs.Order.{is_equal, compare_lists}
use Rattle.sha256.specs.Hash.{digest}
use Rattle.link.specs.Hashes.{Asked, asked, total_asked}
use Rattle.link.specs.History.{Event, issue_was, answer_was, drop_was, standing, issued_ids, ids_from}
use Rattle.link.specs.declared.outcome.Arrival.{Arrival}
use Rattle.link.specs.declared.outcome.Arrival.TheVariants as A
use Rattle.queue.specs.Queue.{allowance, window_of, opening, is_peer, link_of, hashes_of, common, is_sound, issue_outcome, issued_queue, id_of, answer_of, drop_of}
use Rattle.queue.specs.declared.queue.RequestQueue.{RequestQueue}

-- a call, with what it is given besides the queue and the peer: of a buffer, its length
pub data Call : Type 0 where
  issue : (repository name : List ℕ) (offset size : ℕ) (hash : List ℕ) (room : ℕ) → Call
  answer : (bytes : List ℕ) → Call
  drop : Call

-- a call for a peer, which may be any number
pub record PeerCall : Type 0 where
  pub peer : ℕ
  pub call : Call

-- whether a drop was accepted
abbrev pub is_accepted : Result (Unit {0}) Refusal → Bool
is_accepted (Ok u) = true
is_accepted (Err r) = false

-- the queue that a call for a peer hands back
abbrev pub queue_after : RequestQueue → (peer : ℕ) → Call → RequestQueue
queue_after q p (issue r n o size h room) = issued_queue q p size h (in_room room (issue_outcome q p (request_bytes E.New r n o size h) size))
queue_after q p (answer s) = (answer_of q p s).queue
queue_after q p drop = (drop_of q p).queue

-- the event of a call for a peer: what it is answered, and the bytes written; an issue's ID is the one that it hands back (`PeerIssues.id`, queue's Queue)
abbrev pub queue_event : RequestQueue → (peer : ℕ) → Call → Event
queue_event q p (issue r n o size h room) = issue_was (id_of q p) size h (in_room room (issue_outcome q p (request_bytes E.New r n o size h) size))
queue_event q p (answer s) = answer_was (response_in (message_in E.New s)) (answer_of q p s).arrival
queue_event q p drop = drop_was (is_accepted (drop_of q p).verdict)

-- the queue after some calls
abbrev pub queue_final : RequestQueue → List PeerCall → RequestQueue
queue_final q [] = q
queue_final q (c ∷ cs) = queue_final (queue_after q c.peer c.call) cs

-- a peer's call, and the total that it finds before it
pub record FoundCall : Type 0 where
  pub found : ℕ
  pub call : Call

-- the calls of one peer, in order, each with the total that it finds
abbrev pub calls_of : (peer : ℕ) → RequestQueue → List PeerCall → List FoundCall
calls_of p q [] = []
calls_of p q (c ∷ cs) =
    cond (eqb c.peer p)
    (record { found = common q.links; call = c.call } ∷ calls_of p (queue_after q c.peer c.call) cs)
    (calls_of p (queue_after q c.peer c.call) cs)

-- the events of one peer's calls, in order
abbrev pub events_of : (peer : ℕ) → RequestQueue → List PeerCall → List Event
events_of p q [] = []
events_of p q (c ∷ cs) =
    cond (eqb c.peer p)
    (queue_event q c.peer c.call ∷ events_of p (queue_after q c.peer c.call) cs)
    (events_of p (queue_after q c.peer c.call) cs)

-- the window that an opening gives a peer
abbrev pub window_at : List (Option ℕ) → (peer : ℕ) → ℕ
window_at ws p = window_of (get_or ws (p - 1) None)

-- the queue after some calls from an opening
abbrev pub reached : List (Option ℕ) → List PeerCall → RequestQueue
reached ws cs = queue_final (opening ws).queue cs

-- the requests that a queue holds for a peer, with the hashes asked for, the oldest first
abbrev pub asked_of : RequestQueue → (peer : ℕ) → List Asked
asked_of q p = asked (link_of q p) (hashes_of q p)

-- the requests issued for a peer after an opening and since then neither answered nor dropped for it
abbrev pub standing_for : List (Option ℕ) → List PeerCall → (peer : ℕ) → List Asked
standing_for ws cs p = standing (events_of p (opening ws).queue cs)

-- what holds after any calls from an accepted opening
pub record Held (windows : List (Option ℕ)) (calls : List PeerCall) : Type 0 where
  -- each peer's list is exactly the requests issued for it and since then neither answered nor dropped for it, each with its hash
  pub exact : (p : ℕ) → is_peer p ≡ true → asked_of (reached windows calls) p ≡ standing_for windows calls p
  -- their number is within the peer's window
  pub counted : (p : ℕ) → is_peer p ≡ true → length (standing_for windows calls p) ≤ window_at windows p
  -- the IDs issued for a peer are 0, 1, 2 and so on, and 0 again after 4095
  pub ids : (p : ℕ) → is_peer p ≡ true
      → issued_ids (events_of p (opening windows).queue calls) ≡ ids_from 0 (length (issued_ids (events_of p (opening windows).queue calls)))
  -- the total is the sum of the Lengths over all four lists, and within the allowance
  pub summed : common (reached windows calls).links
      ≡ total_asked (standing_for windows calls 1) + (total_asked (standing_for windows calls 2) + (total_asked (standing_for windows calls 3) + total_asked (standing_for windows calls 4)))
  pub within : common (reached windows calls).links ≤ allowance
  -- the queue is sound
  pub sound : is_sound (reached windows calls) ≡ true

-- two runs from openings in which a peer has the same window, makes the same calls in the same order, and finds the same total before each
pub record SameRuns (v w : List (Option ℕ)) (cs ds : List PeerCall) (peer : ℕ) : Type 0 where
  pub window : window_at v peer ≡ window_at w peer
  pub calls : calls_of peer (opening v).queue cs ≡ calls_of peer (opening w).queue ds

-- data with the Length and the hash that a request asked for
pub record Answers (r : Asked) (id size : ℕ) (d : Span) (message : List ℕ) : Type 0 where
  pub same_id : r.id ≡ id
  pub same_size : r.size ≡ size
  pub as_long : d.length ≡ size
  pub same_hash : digest (span_bytes message d) ≡ r.hash

-- data as long as a request asked for, with another hash
pub record Differs (r : Asked) (id size : ℕ) (d : Span) (message : List ℕ) : Type 0 where
  pub same_id : r.id ≡ id
  pub same_size : r.size ≡ size
  pub as_long : d.length ≡ size
  pub other_hash : digest (span_bytes message d) ≡ r.hash → ⊥

-- what a Response with some data brings to the request that it answers: no data, another length, another hash, or the data
abbrev pub brought_to : Asked → (message : List ℕ) → Span → Arrival
brought_to r m d =
    cond (eqb d.length 0) (A.NotAvailable r.id r.size)
    (cond (eqb d.length r.size) (cond (is_equal (compare_lists (digest (span_bytes m d)) r.hash)) (A.Data r.id r.size d) (A.WrongContent r.id r.size))
    (A.WrongSize r.id r.size))

-- what an answer from a peer brings after any calls from an accepted opening, by the oldest of the requests issued for it and since then neither
-- answered nor dropped for it
pub record Brought (windows : List (Option ℕ)) (calls : List PeerCall) (peer : ℕ) (message : List ℕ) : Type 0 where
  -- a Response to it brings exactly this
  pub brings : (r : Asked) (rs : List Asked) (x : ResponseSpan) → standing_for windows calls peer ≡ r ∷ rs → response_in (message_in E.New message) ≡ Ok (record { id = r.id; response = x })
      → (answer_of (reached windows calls) peer message).arrival ≡ Ok (brought_to r message x.«data»)
  -- so data are those of the Response to it, as long as asked, with the hash asked for
  pub right : (id size : ℕ) (d : Span) → (answer_of (reached windows calls) peer message).arrival ≡ Ok (A.Data id size d)
      → (r : Asked) × (rs : List Asked) × (x : ResponseSpan) × (standing_for windows calls peer ≡ r ∷ rs)
      × (response_in (message_in E.New message) ≡ Ok (record { id = id; response = x })) × (x.«data» ≡ d) × Answers r id size d message
  -- and wrong content is data as long as asked with another hash
  pub wrong : (id size : ℕ) → (answer_of (reached windows calls) peer message).arrival ≡ Ok (A.WrongContent id size)
      → (r : Asked) × (rs : List Asked) × (x : ResponseSpan) × (standing_for windows calls peer ≡ r ∷ rs)
      × (response_in (message_in E.New message) ≡ Ok (record { id = id; response = x })) × Differs r id size x.«data» message

-- drops for some numbers, one after the other
abbrev pub drops : List ℕ → List PeerCall
drops [] = []
drops (p ∷ ps) = record { peer = p; call = drop } ∷ drops ps

-- a number is among some
abbrev pub among : ℕ → List ℕ → Bool
among p [] = false
among p (s ∷ ps) = eqb s p || among p ps
