-- A queue that is laid out after each call and taken up before the next goes the way of one that is handed on.
use Rattle.std.specs.Prelude.{Ok}
use Rattle.std.specs.declared.option.Option.{Option}
use Prim.Native.Nat.{ℕ}
use native.Mathlib.Omega.{arith}
use mathlib.Core.Path.{◌≡◌, refl, sym, ap, ◌∙◌}
use mathlib.Core.Bool.{cond}
use mathlib.Core.List.{List, [], ◌∷◌}
use lib.ListN.{length, get_or}
use lib.Dec.{eqb}
use Rattle.link.specs.History.{Event, standing}
use Rattle.link.specs.declared.list.Link.{Link}
use Rattle.queue.specs.Queue.{opening, no_link}
use Rattle.queue.specs.declared.queue.RequestQueue.{RequestQueue}
use Rattle.queue_lent.specs.Words.{links_in, laid}
use Rattle.queue_lent.proofs.LaidLaws.{AllLong, links_back}
use Rattle.promises.specs.History.{PeerCall, queue_after, queue_event, queue_final, events_of, asked_of}
use Rattle.promises.specs.LentHistory.{Lent, lent_of, queue_in, lent_after, lent_final, lent_events_of, HeldLent}
use Rattle.promises.proofs.PeerRuns.{Well, well_after, next}
use Rattle.promises.proofs.Requests.{opened_well, held}

-- four links with as many entries as a link has
four_long : (ls : List Link) → length ls ≡ 4 → length (get_or ls 0 no_link).entries ≡ 16 → length (get_or ls 1 no_link).entries ≡ 16
    → length (get_or ls 2 no_link).entries ≡ 16 → length (get_or ls 3 no_link).entries ≡ 16 → AllLong ls
unfolding AllLong
four_long (a ∷ b ∷ c ∷ d ∷ []) l i j k m = (i, (j, (k, (m, tt))))
four_long [] l i j k m = absurd (omega arith)
four_long (a ∷ []) l i j k m = absurd (omega arith)
four_long (a ∷ b ∷ []) l i j k m = absurd (omega arith)
four_long (a ∷ b ∷ c ∷ []) l i j k m = absurd (omega arith)
four_long (a ∷ b ∷ c ∷ d ∷ e ∷ ls) l i j k m = absurd (omega arith)

lent_back : (q : RequestQueue) → Well q → queue_in (lent_of q) ≡ q
lent_back q w =
    let long : AllLong q.links = four_long q.links w.sized.four (w.sound 1 refl).good.long (w.sound 2 refl).good.long (w.sound 3 refl).good.long (w.sound 4 refl).good.long in
    ap (λ (ls : List Link). record { links = ls; hashes = q.hashes }) (ap (λ (n : ℕ). links_in n (laid q.links)) (sym w.sized.four) ∙ links_back q.links long)

-- one call
lent_next : (q : RequestQueue) → Well q → (c : PeerCall) → lent_after (lent_of q) c.peer c.call ≡ lent_of (next q c)
lent_next q w c = ap (λ (x : RequestQueue). lent_of (queue_after x c.peer c.call)) (lent_back q w)

-- any calls
lent_same : (cs : List PeerCall) (q : RequestQueue) → Well q
    → (lent_final (lent_of q) cs ≡ lent_of (queue_final q cs)) × (queue_in (lent_final (lent_of q) cs) ≡ queue_final q cs)
lent_same [] q w = (refl, lent_back q w)
lent_same (c ∷ cs) q w =
    let on : lent_after (lent_of q) c.peer c.call ≡ lent_of (next q c) = lent_next q w c in
    let h = lent_same cs (next q c) (well_after q w c.peer c.call) in
    (ap (λ (l : Lent). lent_final l cs) on ∙ h.0, ap (λ (l : Lent). queue_in (lent_final l cs)) on ∙ h.1)

lent_events : (p : ℕ) (cs : List PeerCall) (q : RequestQueue) → Well q → lent_events_of p (lent_of q) cs ≡ events_of p q cs
lent_events p [] q w = refl
lent_events p (c ∷ cs) q w =
    let on : lent_after (lent_of q) c.peer c.call ≡ lent_of (next q c) = lent_next q w c in
    let h : lent_events_of p (lent_of (next q c)) cs ≡ events_of p (next q c) cs = lent_events p cs (next q c) (well_after q w c.peer c.call) in
    let rest : lent_events_of p (lent_after (lent_of q) c.peer c.call) cs ≡ events_of p (next q c) cs = ap (λ (l : Lent). lent_events_of p l cs) on ∙ h in
    ap (λ (es : List Event). cond (eqb c.peer p) (queue_event (queue_in (lent_of q)) c.peer c.call ∷ es) es) rest
    ∙ ap (λ (x : RequestQueue). cond (eqb c.peer p) (queue_event x c.peer c.call ∷ events_of p (next q c) cs) (events_of p (next q c) cs)) (lent_back q w)

pub held_lent : (ws : List (Option ℕ)) → length ws ≡ 4 → (opening ws).verdict ≡ Ok tt → (cs : List PeerCall) → HeldLent ws cs
held_lent ws four accepted cs =
    let start : RequestQueue = (opening ws).queue in
    let begun : Well start = opened_well ws four accepted in
    let w = lent_same cs start begun in
    record {
      lent = w.0;
      queue = w.1;
      events = λ p. lent_events p cs start begun;
      exact = λ p e. ap (λ (x : RequestQueue). asked_of x p) w.1 ∙ (held ws four accepted cs).exact p e ∙ ap standing (sym (lent_events p cs start begun));
    }
