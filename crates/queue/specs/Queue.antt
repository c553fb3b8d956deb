-- The queue (document 01's desk, with 02 §6 and §7): the links of four peers with their hashes, under one byte allowance. Which queues are sound, and
-- what each call does.
use Rattle.std.specs.Prelude.{Ok, Err, Some, None, ℕ, ◌+◌, ◌-◌, ◌*◌, Bool, true, cond, ◌&&◌, List, [], ◌∷◌, ◌≡◌, length, get_or, set, replicate, leb}
use Rattle.std.specs.declared.option.Option.{Option}
use Rattle.xdr.specs.Answers.{at_start}
use Rattle.xdr.specs.Filling.{Outcome, gives, refuses, in_room, Fills}
use Rattle.message.specs.Answers.{message_in}
use Rattle.message.specs.Kinds.{response_in}
use Rattle.message.specs.declared.edition.Edition.TheVariants as E
use Rattle.link.specs.Requests.{total}
use Rattle.link.specs.OneLink.{window_limit, window_fits, outstanding, is_orderly, empty_link, issuing, answered_by, emptied}
use Rattle.link.specs.Hashes.{no_hashes, arrival_of}
use Rattle.link.specs.History.{Hashed, hashed_issued, hashed_answered}
use Rattle.link.specs.declared.list.Link.{Link}
use Rattle.link.specs.declared.outcome.LinkAnswered.{LinkAnswered}
use Rattle.queue.specs.Shares.{share_of, with_share}
use Rattle.queue.specs.declared.queue.RequestQueue.{RequestQueue}
use Rattle.queue.specs.declared.outcome.Emptied.{Emptied}
use Rattle.queue.specs.declared.outcome.Issued.{Issued}
use Rattle.queue.specs.declared.outcome.Answered.{Answered}

-- the byte allowance, common to all peers
abbrev pub allowance : ℕ
allowance = 524288

-- how many peers there are
abbrev pub peers : ℕ
peers = 4

-- the window of a peer for whom none is stated
abbrev pub default_window : ℕ
default_window = 4

-- a window, stated or default
abbrev pub window_of : Option ℕ → ℕ
window_of (Some w) = w
window_of None = default_window

-- each of some windows is 1 to 16
abbrev pub all_fit : List (Option ℕ) → Bool
all_fit [] = true
all_fit (w ∷ ws) = window_fits (window_of w) && all_fit ws

-- an empty link for each of some windows
abbrev pub empty_links : List (Option ℕ) → List Link
empty_links [] = []
empty_links (w ∷ ws) = empty_link (window_of w) ∷ empty_links ws

-- the bytes of a peer's hashes: 32 for each of its entries
abbrev pub hash_bytes : ℕ
hash_bytes = 32 * window_limit

-- links without requests
abbrev pub unused : List Link → RequestQueue
unused ls = record { links = ls; hashes = replicate (hash_bytes * peers) 0 }

-- opening with a window for each peer: 22, and four empty links of window 0, where one is not 1 to 16
abbrev pub opening : List (Option ℕ) → Emptied
opening ws =
    cond (all_fit ws)
    (record { queue = unused (empty_links ws); verdict = Ok tt })
    (record { queue = unused (replicate peers (empty_link 0)); verdict = Err (at_start 22) })

-- a peer is 1 to 4
abbrev pub is_peer : ℕ → Bool
is_peer p = leb 1 p && leb p peers

-- what stands for the link of a peer that there is not
abbrev pub no_link : Link
no_link = record { window = 0; next = 0; count = 0; entries = [] }

-- the link of a peer
abbrev pub link_of : RequestQueue → (peer : ℕ) → Link
link_of q p = get_or q.links (p - 1) no_link

-- the hashes of its requests
abbrev pub hashes_of : RequestQueue → (peer : ℕ) → List ℕ
hashes_of q p = share_of hash_bytes q.hashes p

-- both
abbrev pub peer_of : RequestQueue → (peer : ℕ) → Hashed
peer_of q p = record { link = link_of q p; hashes = hashes_of q p }

-- the queue with another link and other hashes of a peer
abbrev pub with_peer : RequestQueue → (peer : ℕ) → Hashed → RequestQueue
with_peer q p x = record { links = set q.links (p - 1) x.link; hashes = with_share hash_bytes q.hashes p x.hashes }

-- the sum of the Lengths over some links
abbrev pub common : List Link → ℕ
common [] = 0
common (l ∷ ls) = total (outstanding l) + common ls

-- each of some links is in order
abbrev pub all_orderly : List Link → Bool
all_orderly [] = true
all_orderly (l ∷ ls) = is_orderly l && all_orderly ls

-- a sound queue (document 01: a sound desk): four links in order, their bytes together within the allowance; nothing is asked of a hash
unfoldable pub is_sound : RequestQueue → Bool
is_sound q = all_orderly q.links && leb (common q.links) allowance

-- what stands first in every call for a peer: 23, then 22
abbrev pub admitted : {A : Type 0} → RequestQueue → (peer : ℕ) → A → (ℕ → A) → A
admitted q p a refuse = cond (is_peer p) (cond (is_sound q) a (refuse 22)) (refuse 23)

-- issuing for a peer: 23, 22, and then its link's own issue, which is told the common total and the allowance
abbrev pub issue_outcome : RequestQueue → (peer : ℕ) (body : List ℕ) (size : ℕ) → Outcome
issue_outcome q p body size = admitted q p (issuing (common q.links) allowance (link_of q p) body size) (λ (k : ℕ). refuses k 0)

-- a Request that is written is appended to the peer's link, with its hash
abbrev pub issued_queue : RequestQueue → (peer size : ℕ) (hash : List ℕ) → Outcome → RequestQueue
issued_queue q p size h (gives l) = with_peer q p (hashed_issued (peer_of q p) size h (gives l))
issued_queue q p size h (refuses k n) = q

-- the ID that an issue for a peer hands back: its next, or 0 where there is no such peer
abbrev pub id_of : RequestQueue → (peer : ℕ) → ℕ
id_of q p = cond (is_peer p) (link_of q p).next 0

-- what an issue promises: of the buffer, of the ID, and of the queue that it hands back
pub record PeerIssues (o : Outcome) (q : RequestQueue) (p size : ℕ) (hash out : List ℕ) (r : Issued) (after : List ℕ) : Type 0 where
  pub fills : Fills o out r.filling after
  pub id : r.id ≡ id_of q p
  pub queue : r.queue ≡ issued_queue q p size hash (in_room (length out) o)

-- what the answer of a peer's link hands back, as the queue's, with what it brought by the hash of the oldest request
abbrev pub answered_for : RequestQueue → (peer : ℕ) (message : List ℕ) → LinkAnswered → Answered
answered_for q p m a = record { queue = with_peer q p (hashed_answered (hashes_of q p) a); arrival = arrival_of (hashes_of q p) m a.release }

-- an answer from a peer: 23, 22, and then its link's own
abbrev pub answer_of : RequestQueue → (peer : ℕ) (message : List ℕ) → Answered
answer_of q p m =
    admitted q p
    (answered_for q p m (answered_by (link_of q p) (response_in (message_in E.New m))))
    (λ (k : ℕ). record { queue = q; arrival = Err (at_start k) })

-- the queue without the requests of a peer
abbrev pub without : RequestQueue → (peer : ℕ) → RequestQueue
without q p = with_peer q p (record { link = emptied (link_of q p); hashes = no_hashes })

-- dropping the link of a peer, and of no other: 23, 22
abbrev pub drop_of : RequestQueue → (peer : ℕ) → Emptied
drop_of q p = admitted q p (record { queue = without q p; verdict = Ok tt }) (λ (k : ℕ). record { queue = q; verdict = Err (at_start k) })
