-- Calls on one link in a row, each given the link and the hashes that the one before handed back; which requests they issued, with the hashes
-- asked for, and which of those were since then neither answered nor dropped.
use Rattle.std.specs.Prelude.{Ok, Err, ℕ, zero, suc, Bool, true, false, cond, ◌||◌, List, [], ◌∷◌, ◌++◌, map, eqb}
use Rattle.std.specs.declared.result.Result.{Result}
use Rattle.xdr.specs.declared.answer.Refusal.{Refusal}
use Rattle.xdr.specs.Filling.{Outcome, gives, refuses, in_room}
use Rattle.message.specs.Answers.{message_in}
use Rattle.message.specs.Kinds.{response_in}
use Rattle.message.specs.declared.kind.ResponseIn.{ResponseIn}
use Rattle.message.specs.declared.edition.Edition.TheVariants as E
use Rattle.message_write.specs.Writing.{request_bytes}
use Rattle.link.specs.Requests.{after}
use Rattle.link.specs.OneLink.{issuing, issued_link, answered_by, emptied}
use Rattle.link.specs.Hashes.{Asked, no_hashes, hashes_issued, hashes_released, arrival_of}
use Rattle.link.specs.declared.list.Link.{Link}
use Rattle.link.specs.declared.outcome.LinkAnswered.{LinkAnswered}
use Rattle.link.specs.declared.outcome.Arrival.{Arrival}

-- a link with the hashes of its requests
pub record Hashed : Type 0 where
  pub link : Link
  pub hashes : List ℕ

-- a call, with what it is given besides the link: of an issue the bytes held, the limit and the buffer's length; of an answer the message's bytes
pub data LinkCall : Type 0 where
  issue : (held limit : ℕ) (repository name : List ℕ) (offset size : ℕ) (hash : List ℕ) (room : ℕ) → LinkCall
  answer : (bytes : List ℕ) → LinkCall
  drop : LinkCall

-- a call with what came of it: of an issue the ID, the Length, the hash, and the bytes written or the refusal; of an answer what the message says
-- and what it brought; of a drop whether it was accepted
pub data Event : Type 0 where
  issue_was : (id size : ℕ) (hash : List ℕ) → Outcome → Event
  answer_was : Result ResponseIn Refusal → Result Arrival Refusal → Event
  drop_was : Bool → Event

-- a link and its hashes after a Request was written or not
abbrev pub hashed_issued : Hashed → (size : ℕ) (hash : List ℕ) → Outcome → Hashed
hashed_issued q size h x = record { link = issued_link q.link size x; hashes = hashes_issued q.hashes q.link.count h x }

-- and after an answer
abbrev pub hashed_answered : (hashes : List ℕ) → LinkAnswered → Hashed
hashed_answered hs a = record { link = a.link; hashes = hashes_released hs a.release }

-- the link and the hashes that a call hands back
abbrev pub after_call : Hashed → LinkCall → Hashed
after_call q (issue held limit r n o size h room) = hashed_issued q size h (in_room room (issuing held limit q.link (request_bytes E.New r n o size h) size))
after_call q (answer s) = hashed_answered q.hashes (answered_by q.link (response_in (message_in E.New s)))
after_call q drop = record { link = emptied q.link; hashes = no_hashes }

-- the event that a call is
abbrev pub event : Hashed → LinkCall → Event
event q (issue held limit r n o size h room) = issue_was q.link.next size h (in_room room (issuing held limit q.link (request_bytes E.New r n o size h) size))
event q (answer s) = answer_was (response_in (message_in E.New s)) (arrival_of q.hashes s (answered_by q.link (response_in (message_in E.New s))).release)
event q drop = drop_was true

-- the link and the hashes after some calls
abbrev pub final : Hashed → List LinkCall → Hashed
final q [] = q
final q (c ∷ cs) = final (after_call q c) cs

-- the events that some calls are
abbrev pub history : Hashed → List LinkCall → List Event
history q [] = []
history q (c ∷ cs) = event q c ∷ history (after_call q c) cs

-- the request that an event issued
abbrev pub issued : Event → List Asked
issued (issue_was id size h (gives l)) = record { id = id; size = size; hash = h } ∷ []
issued (issue_was id size h (refuses k p)) = []
issued (answer_was m o) = []
issued (drop_was t) = []

-- an answer that was taken
abbrev pub is_taken : Result Arrival Refusal → Bool
is_taken (Ok a) = true
is_taken (Err r) = false

-- a message is the Response with an ID
abbrev pub responds : (id : ℕ) → Result ResponseIn Refusal → Bool
responds id (Ok x) = eqb x.id id
responds id (Err r) = false

-- an event settles the request of an ID: the Response to it was taken, or the link was dropped
abbrev pub settles : (id : ℕ) → Event → Bool
settles id (issue_was k size h o) = false
settles id (answer_was m o) = cond (is_taken o) (responds id m) false
settles id (drop_was t) = t

-- one of some events settles the request of an ID
abbrev pub settled : (id : ℕ) → List Event → Bool
settled id [] = false
settled id (e ∷ es) = settles id e || settled id es

-- those of some requests that no later event settles
abbrev pub kept : List Event → List Asked → List Asked
kept es [] = []
kept es (r ∷ rs) = cond (settled r.id es) (kept es rs) (r ∷ kept es rs)

-- the requests issued in a history and since then neither answered nor dropped, the oldest first
abbrev pub standing : List Event → List Asked
standing [] = []
standing (e ∷ es) = kept es (issued e) ++ standing es

-- the IDs under which requests were issued in a history, in order
abbrev pub issued_ids : List Event → List ℕ
issued_ids [] = []
issued_ids (e ∷ es) = map (λ r. r.id) (issued e) ++ issued_ids es

-- so many IDs from one on: 0 follows 4095
abbrev pub ids_from : (id count : ℕ) → List ℕ
ids_from id zero = []
ids_from id (suc n) = id ∷ ids_from (after id) n
