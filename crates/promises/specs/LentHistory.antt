-- The same of a queue that a host lends as words and hashes, and gets back so, from call to call: what it takes up is the queue, so that all of History is
-- said of it.
use Rattle.std.specs.declared.option.Option.{Option}
use Rattle.std.specs.Prelude.{ℕ, true, cond, List, [], ◌∷◌, ◌≡◌, eqb}
use Rattle.link.specs.History.{Event, standing}
use Rattle.queue.specs.Queue.{opening, is_peer}
use Rattle.queue.specs.declared.queue.RequestQueue.{RequestQueue}
use Rattle.queue_lent.specs.Words.{queue_of, words_of}
use Rattle.promises.specs.History.{Call, PeerCall, queue_after, queue_event, events_of, reached, asked_of}

-- a queue as it is lent
pub record Lent : Type 0 where
  pub words : List ℕ
  pub hashes : List ℕ

-- a queue laid out, and taken up
abbrev pub lent_of : RequestQueue → Lent
lent_of q = record { words = words_of q; hashes = q.hashes }

abbrev pub queue_in : Lent → RequestQueue
queue_in l = queue_of l.words l.hashes

-- what an opening fills in, by its contract
abbrev pub lent_opened : List (Option ℕ) → Lent
lent_opened ws = lent_of (opening ws).queue

-- what a call hands back, by the contract of each
abbrev pub lent_after : Lent → (peer : ℕ) → Call → Lent
lent_after l p c = lent_of (queue_after (queue_in l) p c)

-- after some calls
abbrev pub lent_final : Lent → List PeerCall → Lent
lent_final l [] = l
lent_final l (c ∷ cs) = lent_final (lent_after l c.peer c.call) cs

-- the events of one peer's calls
abbrev pub lent_events_of : (peer : ℕ) → Lent → List PeerCall → List Event
lent_events_of p l [] = []
lent_events_of p l (c ∷ cs) =
    cond (eqb c.peer p)
    (queue_event (queue_in l) c.peer c.call ∷ lent_events_of p (lent_after l c.peer c.call) cs)
    (lent_events_of p (lent_after l c.peer c.call) cs)

-- what holds after any calls from an accepted opening: what is lent is the queue laid out, and the events of each peer are its events
pub record HeldLent (windows : List (Option ℕ)) (calls : List PeerCall) : Type 0 where
  pub lent : lent_final (lent_opened windows) calls ≡ lent_of (reached windows calls)
  pub queue : queue_in (lent_final (lent_opened windows) calls) ≡ reached windows calls
  pub events : (p : ℕ) → lent_events_of p (lent_opened windows) calls ≡ events_of p (opening windows).queue calls
  -- so each peer's list is exactly the requests issued for it and since then neither answered nor dropped for it, each with its hash
  pub exact : (p : ℕ) → is_peer p ≡ true → asked_of (queue_in (lent_final (lent_opened windows) calls)) p ≡ standing (lent_events_of p (lent_opened windows) calls)
