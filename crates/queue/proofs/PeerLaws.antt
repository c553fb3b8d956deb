-- What a peer's link and hashes put in place leave of the others, when a queue is sound, and how it is opened.
use Rattle.std.specs.Prelude.{Ok, None}
use Rattle.std.specs.declared.option.Option.{Option}
use Prim.Native.Nat.{ℕ, zero, suc, ◌+◌, ◌-◌, ◌*◌, ◌≤◌, ◌<◌}
use native.Mathlib.Omega.{arith}
use native.Mathlib.Decide.{dec_lt}
use mathlib.Core.Path.{◌≡◌, refl, sym, ap, subst, ◌∙◌}
use mathlib.Core.Bool.{Bool, true, false}
use mathlib.Core.List.{List, [], ◌∷◌}
use lib.ListN.{length, get_or, set, length-set, length-replicate}
use lib.Seq.{get_or-set_same, get_or-set_other}
use borrow.Author.Tests.{le-leb}
use Rattle.link.specs.Requests.{total}
use Rattle.link.specs.OneLink.{outstanding, is_orderly, empty_link}
use Rattle.link.specs.History.{Hashed}
use Rattle.link.specs.declared.list.Link.{Link}
use Rattle.queue.specs.Queue.{allowance, peers, window_of, all_fit, empty_links, hash_bytes, unused, opening, is_peer, no_link, link_of, hashes_of, peer_of, with_peer, common, all_orderly, is_sound}
use Rattle.queue.specs.declared.queue.RequestQueue.{RequestQueue}
use Rattle.queue.proofs.ShareLaws.{share_length, share_kept, share_own, share_before, share_behind}
use Rattle.queue.proofs.QueueLaws.{peer_facts, four_are, opened_by}

-- a queue as the code holds one: four links, and hashes for each
pub record Sized (q : RequestQueue) : Type 0 where
  pub four : length q.links ≡ peers
  pub hashed : length q.hashes ≡ hash_bytes * peers

abbrev hashed_with : Link → List ℕ → Hashed
hashed_with l hs = record { link = l; hashes = hs }

module _ (q : RequestQueue) (w : Sized q) (p : ℕ) (e : is_peer p ≡ true) where
  in_links : p - 1 < length q.links
  in_links = let f = peer_facts p e in omega (arith, f.0, f.1, w.four)

  in_hashes : hash_bytes * (p - 1) + hash_bytes ≤ length q.hashes
  in_hashes = let f = peer_facts p e in omega (arith, f.0, f.1, w.hashed)

  pub hashes_long : length (hashes_of q p) ≡ hash_bytes
  hashes_long = share_length hash_bytes (hash_bytes * (p - 1)) q.hashes in_hashes

  module _ (x : Hashed) (long : length x.hashes ≡ hash_bytes) where
    pub put_sized : Sized (with_peer q p x)
    put_sized =
        record {
          four = length-set q.links (p - 1) x.link ∙ w.four;
          hashed = share_kept hash_bytes (hash_bytes * (p - 1)) q.hashes x.hashes long in_hashes ∙ w.hashed;
        }

    pub put_own : peer_of (with_peer q p x) p ≡ x
    put_own =
        ap (λ (l : Link). hashed_with l (hashes_of (with_peer q p x) p)) (get_or-set_same q.links (p - 1) x.link no_link in_links)
        ∙ ap (hashed_with x.link) (share_own hash_bytes (hash_bytes * (p - 1)) q.hashes x.hashes long in_hashes)

    pub put_other : (s : ℕ) → is_peer s ≡ true → (s ≡ p → ⊥) → peer_of (with_peer q p x) s ≡ peer_of q s
    put_other s f n =
        ap (λ (l : Link). hashed_with l (hashes_of (with_peer q p x) s)) (get_or-set_other q.links (p - 1) (s - 1) x.link no_link apart)
        ∙ ap (hashed_with (link_of q s)) (by_side (dec_lt s p))
      where
        apart : s - 1 ≡ p - 1 → ⊥
        apart h = let a = peer_facts p e in let b = peer_facts s f in n (omega (arith, a.0, b.0))

        by_side : Dec (s < p) → hashes_of (with_peer q p x) s ≡ hashes_of q s
        by_side (yes h) =
            let b = peer_facts s f in
            share_before hash_bytes (hash_bytes * (p - 1)) q.hashes x.hashes long in_hashes (hash_bytes * (s - 1)) (omega (arith, h, b.0))
        by_side (no h) =
            let a = peer_facts p e in
            let b = peer_facts s f in
            let d : p < s = omega (arith, h, n) in
            share_behind hash_bytes (hash_bytes * (p - 1)) q.hashes x.hashes long in_hashes (hash_bytes * (s - 1)) (omega (arith, d, a.0))

-- the total, when the link of one is another
common_set : (ls : List Link) (i : ℕ) (l : Link) → i < length ls → common (set ls i l) + total (outstanding (get_or ls i no_link)) ≡ common ls + total (outstanding l)
common_set [] i l h = absurd (omega arith)
common_set (x ∷ ls) zero l h = omega arith
common_set (x ∷ ls) (suc i) l h = let k = common_set ls i l (omega arith) in omega (arith, k)

common_least : (ls : List Link) (i : ℕ) → i < length ls → total (outstanding (get_or ls i no_link)) ≤ common ls
common_least [] i h = absurd (omega arith)
common_least (x ∷ ls) zero h = omega arith
common_least (x ∷ ls) (suc i) h = let k = common_least ls i (omega arith) in omega (arith, k)

module _ (q : RequestQueue) (w : Sized q) (p : ℕ) (e : is_peer p ≡ true) where
  pub common_put : (x : Hashed) → common (with_peer q p x).links + total (outstanding (link_of q p)) ≡ common q.links + total (outstanding x.link)
  common_put x = common_set q.links (p - 1) x.link (in_links q w p e)

  pub common_own : total (outstanding (link_of q p)) ≤ common q.links
  common_own = common_least q.links (p - 1) (in_links q w p e)

-- the total is the sum over the four
pub common_four : (q : RequestQueue) → Sized q
    → common q.links ≡ total (outstanding (link_of q 1)) + (total (outstanding (link_of q 2)) + (total (outstanding (link_of q 3)) + total (outstanding (link_of q 4))))
common_four q w = ap common (four_are no_link q.links w.four) ∙ omega arith

-- four links in order within the allowance

orderly_all : (ls : List Link) → ((i : ℕ) → i < length ls → is_orderly (get_or ls i no_link) ≡ true) → all_orderly ls ≡ true
orderly_all [] h = refl
orderly_all (l ∷ ls) h = rw (h 0 (omega arith), orderly_all ls (λ i k. h (suc i) (omega arith)))

pub sound_made : (q : RequestQueue) → Sized q → ((p : ℕ) → is_peer p ≡ true → is_orderly (link_of q p) ≡ true) → common q.links ≤ allowance → is_sound q ≡ true
unfolding is_sound
sound_made q w o t = rw (orderly_all q.links each, le-leb (common q.links) allowance t) refl
  where
    each : (i : ℕ) → i < length q.links → is_orderly (get_or q.links i no_link) ≡ true
    each i h =
        let same : suc i - 1 ≡ i = omega arith in
        let fits : is_peer (suc i) ≡ true = rw (le-leb 1 (suc i) (omega arith), le-leb (suc i) 4 (omega (arith, h, w.four))) refl in
        subst (λ (k : ℕ). is_orderly (get_or q.links k no_link) ≡ true) same (o (suc i) fits)

-- an accepted opening

empty_length : (ws : List (Option ℕ)) → length (empty_links ws) ≡ length ws
empty_length [] = refl
empty_length (w ∷ ws) = ap suc (empty_length ws)

empty_common : (ws : List (Option ℕ)) → common (empty_links ws) ≡ 0
empty_common [] = refl
empty_common (w ∷ ws) = let h = empty_common ws in omega (arith, h)

empty_at : (ws : List (Option ℕ)) (i : ℕ) → i < length ws → get_or (empty_links ws) i no_link ≡ empty_link (window_of (get_or ws i None))
empty_at [] i h = absurd (omega arith)
empty_at (w ∷ ws) zero h = refl
empty_at (w ∷ ws) (suc i) h = empty_at ws i (omega arith)

module _ (ws : List (Option ℕ)) (accepted : (opening ws).verdict ≡ Ok tt) where
  accepted_is : (t : Bool) → (opened_by ws t).verdict ≡ Ok tt → t ≡ true
  accepted_is true e = refl
  accepted_is false e = cc

  pub opened_fits : all_fit ws ≡ true
  opened_fits = accepted_is (all_fit ws) accepted

  pub opened_is : (opening ws).queue ≡ unused (empty_links ws)
  opened_is = ap (λ (t : Bool). (opened_by ws t).queue) opened_fits

  pub opened_none : common (opening ws).queue.links ≡ 0
  opened_none = ap (λ (x : RequestQueue). common x.links) opened_is ∙ empty_common ws

  module _ (four : length ws ≡ 4) where
    pub opened_sized : Sized (opening ws).queue
    opened_sized = subst Sized (sym opened_is) (record { four = empty_length ws ∙ four; hashed = length-replicate {A = ℕ} (hash_bytes * peers) 0 })

    pub opened_peer : (p : ℕ) → is_peer p ≡ true
        → peer_of (opening ws).queue p ≡ record { link = empty_link (window_of (get_or ws (p - 1) None)); hashes = hashes_of (unused []) p }
    opened_peer p e =
        let f = peer_facts p e in
        ap (λ (x : RequestQueue). peer_of x p) opened_is
        ∙ ap (λ (l : Link). hashed_with l (hashes_of (unused []) p)) (empty_at ws (p - 1) (omega (arith, f.0, f.1, four)))
