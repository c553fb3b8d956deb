-- What a call on a queue answers and leaves, as number, words, queue and buffer.
use Rattle.std.specs.declared.result.Result.{Result}
use Rattle.std.specs.declared.option.Option.{Option}
use Rattle.xdr.specs.declared.answer.Refusal.{Refusal}
use Prim.Native.Nat.{ℕ}
use mathlib.Core.List.{List}
use mathlib.Core.Path.{◌≡◌, ap, subst, ◌∙◌}
use Rattle.link.specs.declared.outcome.Arrival.{Arrival}
use Rattle.queue.specs.Queue.{opening, id_of}
use Rattle.queue.specs.declared.outcome.Emptied.{Emptied}
use Rattle.queue_lent.specs.Words.{queue_of}
use Rattle.queue_lent.specs.Calls.{LentEmpties, LentIssues, LentAnswers}
use Rattle.queue_lent.specs.declared.calls.LentIssued.{LentIssued}
use Rattle.bep.specs.Filling.{filling_number}
use Rattle.bep.specs.Queues.{verdict_number, Becomes, issued_words, QueueIssues, arrival_number, arrival_words, QueueAnswers}

-- an opening or a drop
pub becomes : {d : Emptied} {v : Result (Unit {0}) Refusal} {number : ℕ} {queue hashes : List ℕ} → LentEmpties d v queue hashes → number ≡ verdict_number v → Becomes d number queue hashes
becomes e n = record { number_is = n ∙ ap verdict_number e.verdict; queue_is = e.queue }

pub opens : {ws vs : List (Option ℕ)} {v : Result (Unit {0}) Refusal} {number : ℕ} {queue hashes : List ℕ} → ws ≡ vs → LentEmpties (opening ws) v queue hashes → number ≡ verdict_number v
    → Becomes (opening vs) number queue hashes
opens {v = v} {queue = queue} {hashes = hashes} e f n = becomes (subst (λ (l : List (Option ℕ)). LentEmpties (opening l) v queue hashes) e f) n

module _ (ws hs : List ℕ) (p : ℕ) where
  pub issues : {body hash : List ℕ} {size : ℕ} {before : List ℕ} {d : LentIssued} {number : ℕ} {words queue hashes after : List ℕ}
      → LentIssues ws hs p body size hash before d queue hashes after → (number ≡ filling_number d.filling) × (words ≡ issued_words d.id d.filling)
      → QueueIssues ws hs p body size hash before number words queue hashes after
  issues {d = d} e g =
      record {
        number_is = g.0 ∙ ap filling_number e.fills.answered;
        words_are = g.1 ∙ ap (λ (i : ℕ). issued_words i d.filling) e.id ∙ ap (issued_words (id_of (queue_of ws hs) p)) e.fills.answered;
        queue_is = e.queue;
        buffer_is = e.fills.buffer;
      }

  pub answers : {m : List ℕ} {v : Result Arrival Refusal} {number : ℕ} {words queue hashes : List ℕ} → LentAnswers ws hs p m v queue hashes → (number ≡ arrival_number v) × (words ≡ arrival_words v)
      → QueueAnswers ws hs p m number words queue hashes
  answers e g = record { number_is = g.0 ∙ ap arrival_number e.arrival; words_are = g.1 ∙ ap arrival_words e.arrival; queue_is = e.queue }
