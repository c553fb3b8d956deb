-- What issuing gives, by the checks in turn.
use Rattle.std.specs.Prelude.{Some, None}
use Rattle.std.specs.declared.option.Option.{Option}
use Rattle.std.specs.declared.result.Result.{Result}
use Rattle.xdr.specs.declared.answer.Refusal.{Refusal}
use Prim.Native.Nat.{ℕ, ◌+◌, ◌≤◌, ◌<◌}
use mathlib.Core.Path.{◌≡◌, refl, sym, ap, subst, ◌∙◌}
use mathlib.Core.Bool.{Bool, true, false, cond, ◌||◌}
use mathlib.Core.List.{List}
use lib.ListN.{length}
use lib.Dec.{leb, eqb}
use borrow.Author.Tests.{leb-true, leb-false, ne_eqb}
use Rattle.xdr.specs.Filling.{Outcome, gives, refuses, in_room, filling_answer, Fills}
use Rattle.xdr.proofs.FillingLaws.{fills_same, fills_refused}
use Rattle.record.specs.Block.{is_size}
use Rattle.message.specs.Message.{message}
use Rattle.message.specs.declared.edition.Edition.TheVariants as E
use Rattle.message_write.specs.Writing.{request_bytes, writing}
use Rattle.message_write.proofs.WrittenRequest.{written_size, written_hash}
use Rattle.message_write.proofs.Numbers.{writing_never}
use Rattle.link.specs.OneLink.{is_full, fault_within, with_fault, issuing, issued_link, Issues}
use Rattle.link.specs.Steps.{barred_answer, appended_by, issued_by}
use Rattle.link.specs.declared.list.Link.{Link}
use Rattle.link.specs.declared.outcome.LinkIssued.{LinkIssued}
use Rattle.link.proofs.LinkLaws.{Orderly}

module _ (held limit : ℕ) (q : Link) (b : List ℕ) (size : ℕ) (out : List ℕ) where
  abbrev told : Outcome
  told = writing (message E.New) q.next 2 b

  -- neither 16 nor 17: the Request was written, or its refusal handed on
  pub issue_written : None ≡ fault_within held limit q size → {w : Result ℕ Refusal} {o : List ℕ} {r : LinkIssued} → Fills told out w o → r ≡ issued_by q size w → Issues (issuing held limit q b size) q size out r o
  issue_written f {w} {o} g h =
      let same : told ≡ issuing held limit q b size = ap (λ (n : Option ℕ). with_fault n told) f in
      subst (λ (x : LinkIssued). Issues (issuing held limit q b size) q size out x o) (sym h)
      (record {
        fills = fills_same out (sym same) g;
        id = refl;
        link = ap (appended_by q size) g.answered ∙ by_answer (in_room (length out) told) ∙ ap (λ (x : Outcome). issued_link q size (in_room (length out) x)) same;
      })
    where
      by_answer : (x : Outcome) → appended_by q size (filling_answer x) ≡ issued_link q size x
      by_answer (gives l) = refl
      by_answer (refuses k p) = refl

  -- 16 or 17, where there is no fault of the fields
  pub issue_barred : (k : ℕ) → Some k ≡ fault_within held limit q size → (room : ℕ) {a w : Result ℕ Refusal} → a ≡ filling_answer (in_room room told) → w ≡ barred_answer k a
      → Issues (issuing held limit q b size) q size out (record { link = q; id = q.next; filling = w }) out
  issue_barred k f room {a} {w} e g = go told refl
    where
      refusal : (m p : ℕ) → with_fault (Some k) told ≡ refuses m p → w ≡ filling_answer (refuses m p) → Issues (issuing held limit q b size) q size out (record { link = q; id = q.next; filling = w }) out
      refusal m p x y =
          let z : issuing held limit q b size ≡ refuses m p = ap (λ (n : Option ℕ). with_fault n told) (sym f) ∙ x in
          record { fills = fills_refused out z y; id = refl; link = ap (λ (v : Outcome). issued_link q size (in_room (length out) v)) (sym z) }

      by_room : (l : List ℕ) (t : Bool) → barred_answer k (filling_answer (cond t (gives l) (refuses 14 0))) ≡ filling_answer (refuses k 0)
      by_room l true = refl
      by_room l false = refl

      go : (o : Outcome) → told ≡ o → Issues (issuing held limit q b size) q size out (record { link = q; id = q.next; filling = w }) out
      go (gives l) p = refusal k 0 (ap (with_fault (Some k)) p) (g ∙ ap (barred_answer k) (e ∙ ap (λ (o : Outcome). filling_answer (in_room room o)) p) ∙ by_room l (leb (length l) room))
      go (refuses m i) p =
          let other : eqb m 14 ≡ false = ne_eqb m 14 (writing_never E.New q.next 2 b m i p).1 in
          refusal m i (ap (with_fault (Some k)) p)
          (g ∙ ap (barred_answer k) (e ∙ ap (λ (o : Outcome). filling_answer (in_room room o)) p) ∙ ap (λ (t : Bool). cond t (filling_answer (refuses k 0)) (filling_answer (refuses m i))) other)

passes : (a b : Bool) → ◌≡◌ {A = Option ℕ} None (cond a (Some 16) (cond b None (Some 17))) → (a ≡ false) × (b ≡ true)
passes true b e = cc
passes false true e = (refl, refl)
passes false false e = cc

neither : (a b : Bool) → (a || b) ≡ false → (a ≡ false) × (b ≡ false)
neither true b e = cc
neither false b e = (refl, e)

-- where neither stands against it there is a free place
pub unfull : (held limit : ℕ) (q : Link) (size : ℕ) → None ≡ fault_within held limit q size → (q.count < q.window) × (q.count < 16) × (held + size ≤ limit)
unfull held limit q size e =
    let p = passes (is_full q) (leb (held + size) limit) e in
    let n = neither (leb q.window q.count) (leb 16 q.count) p.0 in
    (leb-false _ _ n.0, leb-false _ _ n.1, leb-true _ _ p.1)

-- what an accepted issue tells
pub issuing_tells : (held limit : ℕ) (q : Link) (r n : List ℕ) (o size : ℕ) (h l : List ℕ) → Orderly q
    → issuing held limit q (request_bytes E.New r n o size h) size ≡ gives l → (q.count < q.window) × (is_size size ≡ true) × (held + size ≤ limit) × (length h ≡ 32)
issuing_tells held limit q r n o size h l s = go (fault_within held limit q size) refl (writing (message E.New) q.next 2 (request_bytes E.New r n o size h)) refl
  where
    go : (f : Option ℕ) → fault_within held limit q size ≡ f → (x : Outcome) → writing (message E.New) q.next 2 (request_bytes E.New r n o size h) ≡ x → with_fault f x ≡ gives l
        → (q.count < q.window) × (is_size size ≡ true) × (held + size ≤ limit) × (length h ≡ 32)
    go None e x y w =
        let p = unfull held limit q size (sym e) in
        (p.0, written_size E.New r n o size h q.next l s.next_id (y ∙ w), p.2, written_hash E.New r n o size h q.next l s.next_id (y ∙ w))
    go (Some f) e (gives m) y w = cc
    go (Some f) e (refuses a b) y w = cc
