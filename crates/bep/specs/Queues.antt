-- What the calls on a queue of outstanding requests give, which is lent as words and hashes (queue_lent's Words).
use Rattle.std.specs.Prelude.{Some, None}
use Rattle.std.specs.declared.option.Option.{Option}
use Rattle.std.specs.Prelude.{Ok, Err}
use Rattle.std.specs.declared.result.Result.{Result}
use Rattle.xdr.specs.declared.answer.Refusal.{Refusal}
use Rattle.std.specs.Prelude.{ℕ, ◌/◌, ◌%◌, cond, List, [], ◌∷◌, ◌≡◌, length, get_or, eqb}
use Rattle.xdr.specs.Filling.{Outcome, in_room, filling_answer, buffer_after}
use Rattle.link.specs.declared.outcome.Arrival.{Arrival}
use Rattle.link.specs.declared.outcome.Arrival.TheVariants as A
use Rattle.queue.specs.Queue.{issue_outcome, issued_queue, id_of, answer_of}
use Rattle.queue.specs.declared.outcome.Emptied.{Emptied}
use Rattle.queue_lent.specs.Words.{queue_of}
use Rattle.queue_lent.specs.Calls.{Lends}
use Rattle.bep.specs.Filling.{filling_number}

-- a window, which is stated where its bit is 1
abbrev pub window_in : (window bit : ℕ) → Option ℕ
window_in w b = cond (eqb b 1) (Some w) None

-- the windows of the peers 1 to 4, with the bits 1, 2, 4 and 8
abbrev pub windows_in : (windows : List ℕ) (stated : ℕ) → List (Option ℕ)
windows_in ws s = window_in (get_or ws 0 0) (s % 2) ∷ window_in (get_or ws 1 0) (s / 2 % 2) ∷ window_in (get_or ws 2 0) (s / 4 % 2) ∷ window_in (get_or ws 3 0) (s / 8 % 2) ∷ []

-- the number that an opening or a drop returns
abbrev pub verdict_number : Result (Unit {0}) Refusal → ℕ
verdict_number (Ok u) = 0
verdict_number (Err r) = r.number

-- an opening or a drop with these results
pub record Becomes (d : Emptied) (number : ℕ) (queue hashes : List ℕ) : Type 0 where
  pub number_is : number ≡ verdict_number d.verdict
  pub queue_is : Lends d.queue queue hashes

-- how many bytes were written and the request's ID, or the place
abbrev pub issued_words : (id : ℕ) → Result ℕ Refusal → List ℕ
issued_words id (Ok n) = n ∷ id ∷ []
issued_words id (Err r) = r.place ∷ 0 ∷ []

-- what an issue for a peer into a buffer writes, or its refusal
abbrev pub issue_into : (ws hs : List ℕ) (peer : ℕ) (body : List ℕ) (size : ℕ) (before : List ℕ) → Outcome
issue_into ws hs p body size before = in_room (length before) (issue_outcome (queue_of ws hs) p body size)

-- an issue by the queue that the words `ws` and the hashes `hs` are, into the buffer `before`, with these results
pub record QueueIssues (ws hs : List ℕ) (p : ℕ) (body : List ℕ) (size : ℕ) (hash before : List ℕ) (number : ℕ) (words queue hashes after : List ℕ) : Type 0 where
  pub number_is : number ≡ filling_number (filling_answer (issue_into ws hs p body size before))
  pub words_are : words ≡ issued_words (id_of (queue_of ws hs) p) (filling_answer (issue_into ws hs p body size before))
  pub queue_is : Lends (issued_queue (queue_of ws hs) p size hash (issue_into ws hs p body size before)) queue hashes
  pub buffer_is : after ≡ buffer_after (issue_into ws hs p body size before) before

-- the number that an answer returns: 0 where a request was released
abbrev pub arrival_number : Result Arrival Refusal → ℕ
arrival_number (Ok (A.Data id size d)) = 0
arrival_number (Ok (A.NotAvailable id size)) = 0
arrival_number (Ok (A.WrongSize id size)) = 0
arrival_number (Ok (A.WrongContent id size)) = 0
arrival_number (Err r) = r.number

-- which of the four it was, the released request's ID and Length, and where the data stand; or the place
abbrev pub arrival_words : Result Arrival Refusal → List ℕ
arrival_words (Ok (A.Data id size d)) = 0 ∷ id ∷ size ∷ d.start ∷ d.length ∷ []
arrival_words (Ok (A.NotAvailable id size)) = 1 ∷ id ∷ size ∷ 0 ∷ 0 ∷ []
arrival_words (Ok (A.WrongSize id size)) = 2 ∷ id ∷ size ∷ 0 ∷ 0 ∷ []
arrival_words (Ok (A.WrongContent id size)) = 3 ∷ id ∷ size ∷ 0 ∷ 0 ∷ []
arrival_words (Err r) = r.place ∷ 0 ∷ 0 ∷ 0 ∷ 0 ∷ []

-- an answer to the queue that the words `ws` and the hashes `hs` are, with these results
pub record QueueAnswers (ws hs : List ℕ) (p : ℕ) (message : List ℕ) (number : ℕ) (words queue hashes : List ℕ) : Type 0 where
  pub number_is : number ≡ arrival_number (answer_of (queue_of ws hs) p message).arrival
  pub words_are : words ≡ arrival_words (answer_of (queue_of ws hs) p message).arrival
  pub queue_is : Lends (answer_of (queue_of ws hs) p message).queue queue hashes
