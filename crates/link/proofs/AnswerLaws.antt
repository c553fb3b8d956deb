-- What an answer gives, by the checks in turn; and that a refused call changes nothing.
use Rattle.std.specs.Prelude.{Ok, Err}
use Rattle.std.specs.declared.result.Result.{Result}
use Prim.Native.Nat.{ℕ}
use mathlib.Core.Path.{◌≡◌, refl, sym, ap, ◌∙◌}
use mathlib.Core.Bool.{Bool, true, false, cond}
use mathlib.Core.List.{List, [], ◌∷◌}
use lib.ListN.{length}
use lib.Dec.{eqb}
use borrow.Author.Tests.{eq-eqb, ne_eqb, eqb-true}
use Rattle.xdr.specs.Answers.{at_start}
use Rattle.xdr.specs.Filling.{Outcome, in_room, buffer_after}
use Rattle.xdr.proofs.FillingLaws.{refused_is}
use Rattle.xdr.specs.declared.answer.Refusal.{Refusal}
use Rattle.message.specs.declared.answer.Span.{Span}
use Rattle.message.specs.declared.kind.ResponseIn.{ResponseIn}
use Rattle.link.specs.OneLink.{outstanding, issued_link, Issues, without_oldest, released, kept_with, settled_by, answered_by}
use Rattle.link.specs.declared.request.Request.{Request}
use Rattle.link.specs.declared.list.Link.{Link}
use Rattle.link.specs.declared.outcome.LinkIssued.{LinkIssued}
use Rattle.link.specs.declared.outcome.LinkAnswered.{LinkAnswered}

-- the requests, the oldest first

pub settled_none : (q : Link) (id : ℕ) (d : Span) → outstanding q ≡ [] → kept_with q (at_start 20) ≡ settled_by q (outstanding q) id d
settled_none q id d e = rw e refl

module _ (q : Link) (id : ℕ) (d : Span) (r : Request) (rs : List Request) (e : outstanding q ≡ r ∷ rs) where
  pub settled_other : (r.id ≡ id → ⊥) → kept_with q (at_start 20) ≡ settled_by q (outstanding q) id d
  settled_other h = rw (e, ne_eqb _ _ h) refl

  pub settled_oldest : r.id ≡ id → record { link = without_oldest q; release = Ok (released r d) } ≡ settled_by q (outstanding q) id d
  settled_oldest h = rw (e, eq-eqb _ _ h) refl

-- what an answer does: it is refused, or the oldest request is released by the Response to it
pub data AnswerWas (q : Link) (m : Result ResponseIn Refusal) : LinkAnswered → Type 0 where
  kept : (r : Refusal) → AnswerWas q m (kept_with q r)
  freed : (x : ResponseIn) (r : Request) (rs : List Request) → m ≡ Ok x → outstanding q ≡ r ∷ rs → r.id ≡ x.id
      → AnswerWas q m (record { link = without_oldest q; release = Ok (released r x.response.«data») })

pub answer_was_lem : (q : Link) (m : Result ResponseIn Refusal) → AnswerWas q m (answered_by q m)
answer_was_lem q (Ok x) = go (outstanding q) refl
  where
    by_id : (r : Request) (rs : List Request) → outstanding q ≡ r ∷ rs → (t : Bool) → eqb r.id x.id ≡ t
        → AnswerWas q (Ok x) (cond t (record { link = without_oldest q; release = Ok (released r x.response.«data») }) (kept_with q (at_start 20)))
    by_id r rs e true h = freed x r rs refl e (eqb-true _ _ h)
    by_id r rs e false h = kept (at_start 20)

    go : (rs : List Request) → outstanding q ≡ rs → AnswerWas q (Ok x) (settled_by q rs x.id x.response.«data»)
    go [] e = kept (at_start 20)
    go (r ∷ rs) e = by_id r rs e (eqb r.id x.id) refl
answer_was_lem q (Err r) = kept r

-- a refused call changes nothing

pub answered_kept : (q : Link) (f : Refusal) (m : Result ResponseIn Refusal) → (answered_by q m).release ≡ Err f → (answered_by q m).link ≡ q
answered_kept q f m = go (answered_by q m) (answer_was_lem q m)
  where
    go : (a : LinkAnswered) → AnswerWas q m a → a.release ≡ Err f → a.link ≡ q
    go a (kept r) e = refl
    go a (freed x r rs k o s) e = cc

pub issued_kept : {o : Outcome} {q : Link} {size : ℕ} {out after : List ℕ} {r : LinkIssued} {f : Refusal} → Issues o q size out r after → r.filling ≡ Err f
    → (r.link ≡ q) × (after ≡ out)
issued_kept {o} {q} {size} {out} p e =
    let y = refused_is (in_room (length out) o) (sym e ∙ p.fills.answered) in
    (p.link ∙ ap (issued_link q size) y, p.fills.buffer ∙ ap (λ (x : Outcome). buffer_after x out) y)
