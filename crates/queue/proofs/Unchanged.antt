-- A refused call changes nothing, whatever queue is given: neither the queue nor a buffer.
use Rattle.std.specs.Prelude.{Ok, Err}
use Rattle.std.specs.declared.result.Result.{Result}
use Prim.Native.Nat.{ℕ}
use mathlib.Core.Path.{◌≡◌, refl, sym, ap, ◌∙◌}
use mathlib.Core.Bool.{Bool, true, false, cond}
use mathlib.Core.List.{List}
use lib.ListN.{length}
use Rattle.xdr.specs.Answers.{at_start}
use Rattle.xdr.specs.Filling.{Outcome, refuses, in_room, buffer_after}
use Rattle.xdr.specs.declared.answer.Refusal.{Refusal}
use Rattle.xdr.proofs.FillingLaws.{refused_is}
use Rattle.message.specs.Answers.{message_in}
use Rattle.message.specs.Kinds.{response_in}
use Rattle.message.specs.declared.edition.Edition.TheVariants as E
use Rattle.link.specs.Hashes.{hashes_released, arrival_of}
use Rattle.link.specs.declared.list.Link.{Link}
use Rattle.link.specs.declared.outcome.Release.{Release}
use Rattle.link.proofs.AnswerLaws.{answered_kept}
use Rattle.queue.specs.Queue.{is_peer, link_of, hashes_of, with_peer, is_sound, admitted, issued_queue, PeerIssues, answered_for, answer_of, drop_of}
use Rattle.queue.specs.declared.queue.RequestQueue.{RequestQueue}
use Rattle.queue.specs.declared.outcome.Emptied.{Emptied}
use Rattle.queue.specs.declared.outcome.Issued.{Issued}
use Rattle.queue.specs.declared.outcome.Answered.{Answered}
use Rattle.queue.proofs.CallLaws.{same_peer, answered_in, refused_answer, dropped, refused_drop}

-- what holds of a call that goes on and of its refusals holds of the call
by_admission : {A : Type 0} (P : A → Type 0) (q : RequestQueue) (p : ℕ) (a : A) (f : ℕ → A) → P a → ((k : ℕ) → P (f k)) → P (admitted q p a f)
by_admission P q p a f h g = go (is_peer p) (is_sound q)
  where
    go : (s t : Bool) → P (cond s (cond t a (f 22)) (f 23))
    go true true = h
    go true false = g 22
    go false t = g 23

-- an arrival that is refused
refused_release : (hs m : List ℕ) (o : Result Release Refusal) (f : Refusal) → arrival_of hs m o ≡ Err f → o ≡ Err f
refused_release hs m (Ok r) f e = cc
refused_release hs m (Err r) f e = let same : r ≡ f = cc in ap Err same

module _ (q : RequestQueue) (p : ℕ) (f : Refusal) where
  pub refused_issue_changes_nothing : {o : Outcome} {size : ℕ} {hash out after : List ℕ} {r : Issued} → PeerIssues o q p size hash out r after → r.filling ≡ Err f
      → (r.queue ≡ q) × (after ≡ out)
  refused_issue_changes_nothing {o} {size} {hash} {out} h e =
      let y : in_room (length out) o ≡ refuses f.number f.place = refused_is (in_room (length out) o) (sym e ∙ h.fills.answered) in
      (h.queue ∙ ap (issued_queue q p size hash) y, h.fills.buffer ∙ ap (λ (x : Outcome). buffer_after x out) y)

  pub refused_answer_changes_nothing : (m : List ℕ) → (answer_of q p m).arrival ≡ Err f → (answer_of q p m).queue ≡ q
  refused_answer_changes_nothing m =
      by_admission (λ (x : Answered). x.arrival ≡ Err f → x.queue ≡ q) q p (answered_for q p m (answered_in q p m)) (λ (k : ℕ). refused_answer q p (at_start k)) back (λ k e. refl)
    where
      back : arrival_of (hashes_of q p) m (answered_in q p m).release ≡ Err f → (answered_for q p m (answered_in q p m)).queue ≡ q
      back e =
          let r : (answered_in q p m).release ≡ Err f = refused_release (hashes_of q p) m (answered_in q p m).release f e in
          ap (λ (l : Link). with_peer q p (record { link = l; hashes = hashes_released (hashes_of q p) (answered_in q p m).release }))
          (answered_kept (link_of q p) f (response_in (message_in E.New m)) r)
          ∙ ap (λ (x : Result Release Refusal). with_peer q p (record { link = link_of q p; hashes = hashes_released (hashes_of q p) x })) r
          ∙ same_peer q p

  pub refused_drop_changes_nothing : (drop_of q p).verdict ≡ Err f → (drop_of q p).queue ≡ q
  refused_drop_changes_nothing =
      by_admission (λ (x : Emptied). x.verdict ≡ Err f → x.queue ≡ q) q p (dropped q p) (λ (k : ℕ). refused_drop q p (at_start k))
      (λ e. cc) (λ k e. refl)
