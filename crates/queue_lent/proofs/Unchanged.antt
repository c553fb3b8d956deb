-- A refused call leaves the words and the hashes of the queue as they were: 140 words, whatever they are, and any hashes.
use Rattle.std.specs.declared.result.Result.{Result}
use Rattle.std.specs.Prelude.{Err}
use Prim.Native.Nat.{ℕ}
use mathlib.Core.Path.{◌≡◌, refl, sym, ap, ◌∙◌}
use mathlib.Core.List.{List}
use lib.ListN.{length}
use Rattle.xdr.specs.declared.answer.Refusal.{Refusal}
use Rattle.link.specs.declared.outcome.Arrival.{Arrival}
use Rattle.queue.specs.Queue.{drop_of}
use Rattle.queue.specs.declared.queue.RequestQueue.{RequestQueue}
use Rattle.queue.proofs.Unchanged.{refused_issue_changes_nothing, refused_answer_changes_nothing, refused_drop_changes_nothing}
use Rattle.queue_lent.specs.Words.{queue_of, words_of}
use Rattle.queue_lent.specs.Calls.{Lends, LentEmpties, LentIssues, LentAnswers}
use Rattle.queue_lent.specs.declared.calls.LentIssued.{LentIssued}
use Rattle.queue_lent.proofs.LaidLaws.{laid_back}

module _ (ws hs : List ℕ) (long : length ws ≡ 140) (p : ℕ) (f : Refusal) where
  -- the same queue is the same words and hashes
  left : {q : RequestQueue} {words hashes : List ℕ} → q ≡ queue_of ws hs → Lends q words hashes → (words ≡ ws) × (hashes ≡ hs)
  left e l = (l.words_are ∙ ap words_of e ∙ laid_back 4 ws long, l.hashes_are ∙ ap (λ (x : RequestQueue). x.hashes) e)

  pub refused_issue : {body hash out : List ℕ} {size : ℕ} {r : LentIssued} {words hashes after : List ℕ} → LentIssues ws hs p body size hash out r words hashes after
      → r.filling ≡ Err f → (words ≡ ws) × (hashes ≡ hs) × (after ≡ out)
  refused_issue {body} {hash} {out} {size} {r} h e =
      let k = refused_issue_changes_nothing (queue_of ws hs) p f {r = record { queue = _; id = r.id; filling = r.filling }} (record { fills = h.fills; id = h.id; queue = refl }) e in
      let l = left k.0 h.queue in
      (l.0, l.1, k.1)

  pub refused_answer_lem : {m : List ℕ} {v : Result Arrival Refusal} {words hashes : List ℕ} → LentAnswers ws hs p m v words hashes → v ≡ Err f → (words ≡ ws) × (hashes ≡ hs)
  refused_answer_lem {m} h e = left (refused_answer_changes_nothing (queue_of ws hs) p f m (sym h.arrival ∙ e)) h.queue

  pub refused_drop_lem : {v : Result (Unit {0}) Refusal} {words hashes : List ℕ} → LentEmpties (drop_of (queue_of ws hs) p) v words hashes → v ≡ Err f → (words ≡ ws) × (hashes ≡ hs)
  refused_drop_lem h e = left (refused_drop_changes_nothing (queue_of ws hs) p f (sym h.verdict ∙ e)) h.queue
