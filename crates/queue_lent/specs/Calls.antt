-- What the calls on a lent queue give: the same as on the queue that words and hashes are.
use Rattle.std.specs.declared.result.Result.{Result}
use Rattle.xdr.specs.declared.answer.Refusal.{Refusal}
use Rattle.std.specs.Prelude.{ℕ, ◌+◌, List, [], ◌∷◌, ◌≡◌, length}
use Rattle.xdr.specs.Filling.{in_room, Fills}
use Rattle.link.specs.Requests.{total}
use Rattle.link.specs.OneLink.{outstanding}
use Rattle.link.specs.declared.list.Link.{Link}
use Rattle.link.specs.declared.outcome.Arrival.{Arrival}
use Rattle.queue.specs.Queue.{common, issue_outcome, issued_queue, id_of, answer_of}
use Rattle.queue.specs.declared.queue.RequestQueue.{RequestQueue}
use Rattle.queue.specs.declared.outcome.Emptied.{Emptied}
use Rattle.queue_lent.specs.Words.{queue_of, words_of}
use Rattle.queue_lent.specs.declared.calls.LentIssued.{LentIssued}

-- a queue, lent
pub record Lends (q : RequestQueue) (words hashes : List ℕ) : Type 0 where
  pub words_are : words ≡ words_of q
  pub hashes_are : hashes ≡ q.hashes

-- what an opening or a drop promises
pub record LentEmpties (d : Emptied) (v : Result (Unit {0}) Refusal) (words hashes : List ℕ) : Type 0 where
  pub verdict : v ≡ d.verdict
  pub queue : Lends d.queue words hashes

-- what an issue by the queue that the words `ws` and the hashes `hs` are promises: of the buffer, of the ID, and of the queue
pub record LentIssues (ws hs : List ℕ) (p : ℕ) (body : List ℕ) (size : ℕ) (hash out : List ℕ) (r : LentIssued) (words hashes after : List ℕ) : Type 0 where
  pub fills : Fills (issue_outcome (queue_of ws hs) p body size) out r.filling after
  pub id : r.id ≡ id_of (queue_of ws hs) p
  pub queue : Lends (issued_queue (queue_of ws hs) p size hash (in_room (length out) (issue_outcome (queue_of ws hs) p body size))) words hashes

-- what an answer to it promises
pub record LentAnswers (ws hs : List ℕ) (p : ℕ) (message : List ℕ) (v : Result Arrival Refusal) (words hashes : List ℕ) : Type 0 where
  pub arrival : v ≡ (answer_of (queue_of ws hs) p message).arrival
  pub queue : Lends (answer_of (queue_of ws hs) p message).queue words hashes

-- how many requests are outstanding over some links
abbrev pub counted : List Link → ℕ
counted [] = 0
counted (l ∷ ls) = length (outstanding l) + counted ls

-- how many requests are outstanding, and their bytes, of each of some links
abbrev pub each_totals : List Link → List ℕ
each_totals [] = []
each_totals (l ∷ ls) = length (outstanding l) ∷ total (outstanding l) ∷ each_totals ls

-- the same over all links, and then of each
abbrev pub totals_of : RequestQueue → List ℕ
totals_of q = counted q.links ∷ common q.links ∷ each_totals q.links
