use Rattle.std.proofs.Common.{ℕ, suc, ◌-◌, ◌≤◌, List, [], ◌∷◌, ◌≡◌, length, take, drop, get_or, subst, sym, ap, arith}
use Rattle.std.proofs.lemmas.List.{take_all}
use Rattle.merge.proofs.NoteLaws.{ToPut, to_put_joined, to_put_next, to_put_last}
use Rattle.merge.proofs.notes.put_notes.Goals as goal

-- the first two of the notes that are left, and the others
opened : (l : List ℕ) → 2 ≤ length l → l ≡ get_or l 0 0 ∷ get_or l 1 0 ∷ take (length l - 2) (drop 2 l)
opened [] h = absurd (omega arith)
opened (x ∷ []) h = absurd (omega arith)
opened (x ∷ y ∷ l) h = ap (λ (r : List ℕ). x ∷ y ∷ r) (sym (take_all (suc (suc (length l)) - 2) l (omega arith)))

pub loop-left-preserved-in-Some : goal.loop-left-preserved-in-Some
loop-left-preserved-in-Some c h =
    let a = c.args in
    to_put_joined a.a.now a.b.now
    (subst (λ (l : List ℕ). ToPut a.a.now a.b.now a.notes.now a.out.now a.at c.loop-left.out c.loop-left.to c.loop-left.x c.loop-left.y l) (opened c.loop-left.left.now (omega arith)) (c.loop-left.invariant h))
    c.join.ensures c.in-Some.is

pub loop-left-preserved : goal.loop-left-preserved
loop-left-preserved c h =
    let a = c.args in
    to_put_next a.a.now a.b.now
    (subst (λ (l : List ℕ). ToPut a.a.now a.b.now a.notes.now a.out.now a.at c.loop-left.out c.loop-left.to c.loop-left.x c.loop-left.y l) (opened c.loop-left.left.now (omega arith)) (c.loop-left.invariant h))
    c.put_note-to.ensures

pub returns : goal.returns
returns c h = to_put_last c.args.a.now c.args.b.now (c.loop-left.invariant h) (omega arith) c.put_note.ensures
