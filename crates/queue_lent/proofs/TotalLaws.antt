-- What is outstanding of a lent link, and the totals of four.
use Prim.Native.Nat.{ℕ, ◌+◌, ◌*◌, ◌<◌, ◌≤◌, min}
use native.Mathlib.Omega.{arith}
use mathlib.Core.Path.{◌≡◌, refl, sym, ap, ◌∙◌}
use mathlib.Core.List.{List, [], ◌∷◌}
use lib.ListN.{length, length-take, take, drop, get_or}
use lib.Seq.{drop-drop}
use Rattle.std.proofs.lemmas.List.{get_or-take}
use Rattle.link.specs.Requests.{blank}
use Rattle.link.specs.OneLink.{outstanding}
use Rattle.link.specs.declared.request.Request.{Request}
use Rattle.link.specs.declared.list.Link.{Link}
use Rattle.queue.specs.Shares.{share_of}
use Rattle.queue.specs.Queue.{peers, common}
use Rattle.queue_lent.specs.Words.{link_size, link_in, links_in, queue_of}
use Rattle.queue_lent.specs.Calls.{counted, each_totals, totals_of}
use Rattle.queue_lent.specs.Steps.{LinkTotals}
use Rattle.queue_lent.specs.declared.totals.LinkTotal.{LinkTotal}
use Rattle.queue_lent.proofs.WordLaws.{entries_long, entry_at_lem, count_is}

-- how many requests of a lent link are outstanding
pub count_out : (ws : List ℕ) → length (outstanding (link_in ws)) ≡ min (get_or ws 2 0) 16
count_out ws = length-take (link_in ws).count (link_in ws).entries ∙ ap (λ (n : ℕ). min n (length (link_in ws).entries)) (count_is ws) ∙ ap (min (get_or ws 2 0)) (entries_long ws)

-- the Length of one of them
pub length_out : (ws : List ℕ) (i : ℕ) → i < length (outstanding (link_in ws)) → (get_or (outstanding (link_in ws)) i blank).size ≡ get_or ws (4 + 2 * i) 0
length_out ws i h =
    let few : length (outstanding (link_in ws)) ≤ (link_in ws).count = rw (length-take (link_in ws).count (link_in ws).entries) (omega arith) in
    ap (λ (r : Request). r.size) (get_or-take (link_in ws).count (link_in ws).entries i blank (omega arith) ∙ entry_at_lem ws i (omega (arith, count_out ws)))

four_links : (ws : List ℕ) → links_in peers ws ≡ link_in (share_of link_size ws 1) ∷ link_in (share_of link_size ws 2) ∷ link_in (share_of link_size ws 3) ∷ link_in (share_of link_size ws 4) ∷ []
unfolding links_in
four_links ws =
    let third : drop 35 (drop 35 ws) ≡ drop 70 ws = drop-drop 35 35 ws in
    let fourth : drop 35 (drop 70 ws) ≡ drop 105 ws = drop-drop 35 70 ws in
    ap (λ (r : List ℕ). link_in (take 35 ws) ∷ link_in (take 35 (drop 35 ws)) ∷ link_in (take 35 r) ∷ link_in (take 35 (drop 35 r)) ∷ []) third
    ∙ ap (λ (r : List ℕ). link_in (take 35 ws) ∷ link_in (take 35 (drop 35 ws)) ∷ link_in (take 35 (drop 70 ws)) ∷ link_in (take 35 r) ∷ []) fourth

-- the totals of four links, and over all
module _ (k l m n : Link) {a b c d : LinkTotal} (ka : LinkTotals k a) (lb : LinkTotals l b) (mc : LinkTotals m c) (nd : LinkTotals n d) where
  all_counted : a.count + b.count + c.count + d.count ≡ counted (k ∷ l ∷ m ∷ n ∷ [])
  all_counted = omega (arith, ka.count_is, lb.count_is, mc.count_is, nd.count_is)

  all_summed : a.bytes + b.bytes + c.bytes + d.bytes ≡ common (k ∷ l ∷ m ∷ n ∷ [])
  all_summed = omega (arith, ka.bytes_are, lb.bytes_are, mc.bytes_are, nd.bytes_are)

  each_told : (a.count ∷ a.bytes ∷ b.count ∷ b.bytes ∷ c.count ∷ c.bytes ∷ d.count ∷ d.bytes ∷ []) ≡ each_totals (k ∷ l ∷ m ∷ n ∷ [])
  each_told = rw (ka.count_is, ka.bytes_are, lb.count_is, lb.bytes_are, mc.count_is, mc.bytes_are, nd.count_is, nd.bytes_are) refl

  pub all_told : (ws : List ℕ) → links_in peers ws ≡ k ∷ l ∷ m ∷ n ∷ []
      → ((a.count + b.count + c.count + d.count) ∷ (a.bytes + b.bytes + c.bytes + d.bytes) ∷ a.count ∷ a.bytes ∷ b.count ∷ b.bytes ∷ c.count ∷ c.bytes ∷ d.count ∷ d.bytes ∷ [])
      ≡ totals_of (queue_of ws [])
  all_told ws e =
      ap (λ (r : List ℕ). (a.count + b.count + c.count + d.count) ∷ (a.bytes + b.bytes + c.bytes + d.bytes) ∷ r) each_told
      ∙ ap (λ (x : ℕ). x ∷ (a.bytes + b.bytes + c.bytes + d.bytes) ∷ each_totals (k ∷ l ∷ m ∷ n ∷ [])) all_counted
      ∙ ap (λ (x : ℕ). counted (k ∷ l ∷ m ∷ n ∷ []) ∷ x ∷ each_totals (k ∷ l ∷ m ∷ n ∷ [])) all_summed
      ∙ ap (λ (ls : List Link). counted ls ∷ common ls ∷ each_totals ls) (sym e)

pub totals_told : (ws : List ℕ) {a b c d : LinkTotal} → LinkTotals (link_in (share_of link_size ws 1)) a → LinkTotals (link_in (share_of link_size ws 2)) b
    → LinkTotals (link_in (share_of link_size ws 3)) c → LinkTotals (link_in (share_of link_size ws 4)) d
    → ((a.count + b.count + c.count + d.count) ∷ (a.bytes + b.bytes + c.bytes + d.bytes) ∷ a.count ∷ a.bytes ∷ b.count ∷ b.bytes ∷ c.count ∷ c.bytes ∷ d.count ∷ d.bytes ∷ [])
    ≡ totals_of (queue_of ws [])
totals_told ws ka lb mc nd = all_told (link_in (share_of link_size ws 1)) (link_in (share_of link_size ws 2)) (link_in (share_of link_size ws 3)) (link_in (share_of link_size ws 4)) ka lb mc nd ws (four_links ws)
