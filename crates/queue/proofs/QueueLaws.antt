-- What the checks of a queue of four links tell.
use Rattle.std.specs.Prelude.{Ok, Err, Some, None}
use Rattle.std.specs.declared.result.Result.{Result}
use Rattle.std.specs.declared.option.Option.{Option}
use Prim.Native.Nat.{ℕ, zero, suc, ◌+◌, ◌-◌, ◌*◌, ◌<◌, ◌≤◌}
use native.Mathlib.Omega.{arith}
use mathlib.Core.Path.{◌≡◌, refl, sym, ap, subst, ◌∙◌}
use mathlib.Core.Bool.{Bool, true, false, cond}
use mathlib.Core.List.{List, [], ◌∷◌}
use lib.ListN.{length, take, drop, get_or, replicate, drop_of_length-le}
use lib.Seq.{drop-cons}
use lib.Dec.{leb}
use borrow.Author.Tests.{leb-true, le-leb, lt-leb}
use Rattle.xdr.specs.Answers.{at_start}
use Rattle.xdr.specs.declared.answer.Refusal.{Refusal}
use Rattle.link.specs.Requests.{total, first_id, stands_before, is_consecutive}
use Rattle.link.specs.OneLink.{window_fits, outstanding, is_orderly, empty_link}
use Rattle.link.specs.Steps.{orderly_bytes}
use Rattle.link.specs.declared.request.Request.{Request}
use Rattle.link.specs.declared.list.Link.{Link}
use Rattle.link.proofs.RequestLaws.{both, entry_length}
use Rattle.link.proofs.LinkLaws.{Orderly, orderly_facts, tally_bytes, tally_unsound}
use Rattle.queue.specs.Queue.{allowance, peers, window_of, all_fit, empty_links, unused, opening, is_peer, link_of, no_link, common, all_orderly, is_sound, admitted}
use Rattle.queue.specs.Steps.{sound_bytes, admission}
use Rattle.queue.specs.declared.queue.RequestQueue.{RequestQueue}
use Rattle.queue.specs.declared.outcome.Emptied.{Emptied}
use Rattle.std.specs.List.{list_all}
use Rattle.std.specs.Option.{ok_or}
use native.Mathlib.Numerals.{add-one}

-- the bytes of a link in order

total_most : (rs : List Request) (next : ℕ) → is_consecutive rs next ≡ true → total rs ≤ 131072 * length rs
total_most [] next o = omega arith
total_most (r ∷ rs) next o =
    let h = both (stands_before r (first_id rs next)) (is_consecutive rs next) o in
    let t : total rs ≤ 131072 * length rs = total_most rs next h.1 in
    let l : r.size ≤ 131072 = entry_length r (first_id rs next) h.0 in
    omega arith

orderly_most : (q : Link) → is_orderly q ≡ true → total (outstanding q) ≤ 2097152
orderly_most q o =
    let s : Orderly q = orderly_facts q o in
    let t : total (outstanding q) ≤ 131072 * length (outstanding q) = total_most (outstanding q) q.next s.ordered in
    let n : length (outstanding q) ≤ q.count = few q.count q.entries in
    omega arith
  where
    few : (n : ℕ) (es : List Request) → length (take n es) ≤ n
    few zero es = omega arith
    few (suc n) [] = omega arith
    few (suc n) (e ∷ es) = let h = few n es in omega arith

-- the windows

pub all_fit_lem : (ws : List (Option ℕ)) → list_all (λ w. window_fits (window_of w)) ws ≡ all_fit ws
all_fit_lem [] = refl
all_fit_lem (w ∷ ws) = rw (all_fit_lem ws) refl

-- the links

-- what is known once some links have passed
pub record Passed (ls rest : List Link) (sum : ℕ) : Type 0 where
  pub ordered : all_orderly ls ≡ all_orderly rest
  pub summed : common ls ≡ sum + common rest

module _ (d : Link) (ls : List Link) (i sum : ℕ) (below : i < length ls) where
  pub passed_more : (n : ℕ) → Passed ls (drop i ls) sum → Some n ≡ orderly_bytes (get_or ls i d) → Passed ls (drop (i + 1) ls) (sum + n)
  passed_more n p e =
      let t = tally_bytes (get_or ls i d) n e in
      let s : drop i ls ≡ get_or ls i d ∷ drop (i + 1) ls = rw add-one (drop-cons ls i d below) in
      record { ordered = p.ordered ∙ ap all_orderly s ∙ rw t.0; summed = p.summed ∙ ap (λ (l : List Link). sum + common l) s ∙ omega (arith, t.1) }

  pub passed_not : Passed ls (drop i ls) sum → None ≡ orderly_bytes (get_or ls i d) → all_orderly ls ≡ false
  passed_not p e = p.ordered ∙ ap all_orderly (drop-cons ls i d below) ∙ rw (tally_unsound (get_or ls i d) e)

pub passed_all : {ls : List Link} {sum : ℕ} (i : ℕ) → length ls ≤ i → Passed ls (drop i ls) sum → Passed ls [] sum
passed_all {ls} {sum} i h p = subst (λ (l : List Link). Passed ls l sum) (drop_of_length-le ls {i = i} h) p

pub bytes_most : (l : Link) (n : ℕ) → Some n ≡ orderly_bytes l → n ≤ 2097152
bytes_most l n e = let t = tally_bytes l n e in omega (arith, t.1, orderly_most l t.0)

module _ (q : RequestQueue) where
  pub unsound_order : all_orderly q.links ≡ false → None ≡ sound_bytes q
  unfolding is_sound
  unsound_order e = rw e

  pub unsound_bytes : (sum : ℕ) → Passed q.links [] sum → allowance < sum → None ≡ sound_bytes q
  unfolding is_sound
  unsound_bytes sum p h = rw (p.ordered, lt-leb (common q.links) allowance (omega (arith, p.summed)))

  pub sound_told : (sum : ℕ) → Passed q.links [] sum → sum ≤ allowance → Some sum ≡ sound_bytes q
  unfolding is_sound
  sound_told sum p h =
      let same : common q.links ≡ sum = p.summed ∙ omega arith in
      rw (p.ordered, le-leb (common q.links) allowance (omega (arith, same)), same)

-- what stands first in every call for a peer

-- 23 has passed, or has not
pub past_23 : {A : Type 0} (p : ℕ) (a b : A) → is_peer p ≡ true → cond (is_peer p) a b ≡ a
past_23 p a b e = ap (λ (t : Bool). cond t a b) e

pub at_23 : {A : Type 0} (p : ℕ) (a b : A) → is_peer p ≡ false → cond (is_peer p) a b ≡ b
at_23 p a b e = ap (λ (t : Bool). cond t a b) e

module _ (q : RequestQueue) (p : ℕ) where
  pub admission_told : is_peer p ≡ true → ok_or (sound_bytes q) (at_start 22) ≡ admission q p
  admission_told e = rw e (go (is_sound q))
    where
      go : (t : Bool) → ok_or (cond t (Some (common q.links)) None) (at_start 22) ≡ cond t (Ok (common q.links)) (Err (at_start 22))
      go true = refl
      go false = refl

  -- a call that may go on
  pub record Admitted : Type 0 where
    pub peer : is_peer p ≡ true
    pub sound : is_sound q ≡ true

  pub record Held (n : ℕ) : Type 0 where
    pub may : Admitted
    pub bytes : n ≡ common q.links

  held_of : (a b : Bool) (n : ℕ) → is_peer p ≡ a → is_sound q ≡ b → ◌≡◌ {A = Result ℕ Refusal} (Ok n) (cond a (cond b (Ok (common q.links)) (Err (at_start 22))) (Err (at_start 23))) → Held n
  held_of true true n f g e = record { may = record { peer = f; sound = g }; bytes = cc }
  held_of true false n f g e = cc
  held_of false b n f g e = cc

  pub held_tells : (n : ℕ) → Ok n ≡ admission q p → Held n
  held_tells n e = held_of (is_peer p) (is_sound q) n refl refl e

  pub goes_on : {A : Type 0} (a : A) (f : ℕ → A) → Admitted → admitted q p a f ≡ a
  goes_on a f h = rw (h.peer, h.sound) refl

  refused_of : {A : Type 0} (a : A) (g : Refusal → A) (r : Refusal) (b c : Bool) → ◌≡◌ {A = Result ℕ Refusal} (Err r) (cond b (cond c (Ok (common q.links)) (Err (at_start 22))) (Err (at_start 23)))
      → g r ≡ cond b (cond c a (g (at_start 22))) (g (at_start 23))
  refused_of a g r true true e = cc
  refused_of a g r true false e = let h : r ≡ at_start 22 = cc in ap g h
  refused_of a g r false c e = let h : r ≡ at_start 23 = cc in ap g h

  -- a call that is refused
  pub stops : {A : Type 0} (a : A) (g : Refusal → A) (r : Refusal) → Err r ≡ admission q p → g r ≡ admitted q p a (λ (k : ℕ). g (at_start k))
  stops a g r e = refused_of a g r (is_peer p) (is_sound q) e

pub peer_facts : (p : ℕ) → is_peer p ≡ true → (1 ≤ p) × (p ≤ 4)
peer_facts p e = let b = both (leb 1 p) (leb p 4) e in (leb-true _ _ b.0, leb-true _ _ b.1)

-- the links of a sound queue

pub orderly_at : (ls : List Link) (i : ℕ) (d : Link) → all_orderly ls ≡ true → i < length ls → is_orderly (get_or ls i d) ≡ true
orderly_at [] i d o h = absurd (omega arith)
orderly_at (l ∷ ls) zero d o h = (both (is_orderly l) (all_orderly ls) o).0
orderly_at (l ∷ ls) (suc i) d o h = orderly_at ls i d (both (is_orderly l) (all_orderly ls) o).1 (omega arith)

pub orderly_link : (q : RequestQueue) (p : ℕ) → Admitted q p → length q.links ≡ 4 → is_orderly (link_of q p) ≡ true
unfolding is_sound
orderly_link q p h l =
    let f = peer_facts p h.peer in
    orderly_at q.links (p - 1) no_link (both (all_orderly q.links) (leb (common q.links) allowance) h.sound).0 (omega (arith, f.0, f.1))

-- a list of four
pub four_are : {A : Type 0} (d : A) (l : List A) → length l ≡ 4 → l ≡ get_or l 0 d ∷ get_or l 1 d ∷ get_or l 2 d ∷ get_or l 3 d ∷ []
four_are d (a ∷ b ∷ c ∷ e ∷ []) h = refl
four_are d [] h = absurd (omega arith)
four_are d (a ∷ []) h = absurd (omega arith)
four_are d (a ∷ b ∷ []) h = absurd (omega arith)
four_are d (a ∷ b ∷ c ∷ []) h = absurd (omega arith)
four_are d (a ∷ b ∷ c ∷ e ∷ f ∷ l) h = absurd (omega arith)

module _ (ws : List (Option ℕ)) where
  -- the opening, by whether the windows fit
  abbrev pub opened_by : Bool → Emptied
  opened_by t = cond t (record { queue = unused (empty_links ws); verdict = Ok tt }) (record { queue = unused (replicate peers (empty_link 0)); verdict = Err (at_start 22) })

  pub open_refused : {l : Link} {r : Refusal} → all_fit ws ≡ false → l ≡ empty_link 0 → r ≡ at_start 22
      → record { queue = unused (replicate 4 l); verdict = Err r } ≡ opening ws
  open_refused e f g = rw (f, g, e) refl

module _ (x : Option ℕ) (ws : List (Option ℕ)) (long : length ws ≡ 4) where
  pub open_made : {a b c d : Link} {i j k l : ℕ} → all_fit ws ≡ true
      → i ≡ window_of (get_or ws 0 x) → a ≡ empty_link i → j ≡ window_of (get_or ws 1 x) → b ≡ empty_link j
      → k ≡ window_of (get_or ws 2 x) → c ≡ empty_link k → l ≡ window_of (get_or ws 3 x) → d ≡ empty_link l
      → record { queue = unused (a ∷ b ∷ c ∷ d ∷ []); verdict = Ok tt } ≡ opening ws
  open_made {a} {b} {c} {d} fit ie ae je be ke ce le de =
      let m : a ∷ b ∷ c ∷ d ∷ [] ≡ empty_links ws =
      rw (ae ∙ ap empty_link ie, be ∙ ap empty_link je, ce ∙ ap empty_link ke, de ∙ ap empty_link le) (sym (ap empty_links (four_are x ws long))) in
      ap (λ (ls : List Link). record { queue = unused ls; verdict = Ok tt }) m ∙ sym (ap (opened_by ws) fit)
