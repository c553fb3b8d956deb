-- The links that words are, share by share.
use Prim.Native.Nat.{ℕ, zero, suc, ◌+◌, ◌-◌, ◌*◌, ◌<◌}
use native.Mathlib.Omega.{arith}
use mathlib.Core.Path.{◌≡◌, refl, sym, ap, ◌∙◌}
use mathlib.Core.Bool.{true}
use mathlib.Core.List.{List, [], ◌∷◌, ◌++◌, append_assoc}
use lib.ListN.{length, take, drop, get_or, set, length-drop, take-append-drop}
use lib.Seq.{drop-append_seam, take-append_seam, take-append-add, drop-append-add, drop-drop, length-take-le}
use Rattle.link.specs.declared.list.Link.{Link}
use Rattle.queue.specs.Shares.{share_of, with_share}
use Rattle.queue.specs.Queue.{peers, is_peer, no_link, link_of}
use Rattle.queue.proofs.QueueLaws.{peer_facts}
use Rattle.queue_lent.specs.Words.{link_size, link_in, links_in, queue_of, link_words, laid}
use Rattle.queue_lent.specs.Steps.{stored_one, stored_all}
use Rattle.queue_lent.proofs.WordLaws.{length_pairs, words_back, link_back, entries_long}

-- links with as many entries as a link has
unfoldable pub AllLong : List Link → Type 0
AllLong [] = Unit {0}
AllLong (l ∷ ls) = (length l.entries ≡ 16) × AllLong ls

pub words_long : (l : Link) → length l.entries ≡ 16 → length (link_words l) ≡ 35
words_long l e = ap (λ (k : ℕ). suc (suc (suc k))) (length_pairs l.entries ∙ ap (λ (k : ℕ). 2 * k) e)

-- taking up

pub links_long : (n : ℕ) (ws : List ℕ) → length (links_in n ws) ≡ n
unfolding links_in
links_long zero ws = refl
links_long (suc n) ws = ap suc (links_long n (drop 35 ws))

pub all_long : (n : ℕ) (ws : List ℕ) → AllLong (links_in n ws)
unfolding links_in AllLong
all_long zero ws = tt
all_long (suc n) ws = (entries_long (take 35 ws), all_long n (drop 35 ws))

pub links_at : (n : ℕ) (ws : List ℕ) (i : ℕ) → i < n → get_or (links_in n ws) i no_link ≡ link_in (take 35 (drop (35 * i) ws))
unfolding links_in
links_at zero ws i h = absurd (omega arith)
links_at (suc n) ws zero h = refl
links_at (suc n) ws (suc i) h =
    let next : 35 + 35 * i ≡ 35 * suc i = omega arith in
    links_at n (drop 35 ws) i (omega arith)
    ∙ ap (λ (r : List ℕ). link_in (take 35 r)) (drop-drop (35 * i) 35 ws ∙ ap (λ (k : ℕ). drop k ws) next)

-- the link of a peer is the one that its share is
pub link_is : (ws hs : List ℕ) (p : ℕ) → is_peer p ≡ true → link_of (queue_of ws hs) p ≡ link_in (share_of link_size ws p)
link_is ws hs p e = let f = peer_facts p e in links_at peers ws (p - 1) (omega (arith, f.0, f.1))

-- laying out

pub laid_back : (n : ℕ) (ws : List ℕ) → length ws ≡ 35 * n → laid (links_in n ws) ≡ ws
unfolding links_in laid
laid_back zero [] h = refl
laid_back zero (w ∷ ws) h = absurd (omega arith)
laid_back (suc n) ws h =
    let first : length (take 35 ws) ≡ 35 = length-take-le 35 ws (omega arith) in
    let rest : length (drop 35 ws) ≡ 35 * n = length-drop 35 ws ∙ omega arith in
    ap (λ (r : List ℕ). r ++ laid (links_in n (drop 35 ws))) (words_back (take 35 ws) first)
    ∙ ap (λ (r : List ℕ). take 35 ws ++ r) (laid_back n (drop 35 ws) rest)
    ∙ take-append-drop 35 ws

-- a link behind whose words others follow
module _ (l : Link) (long : length l.entries ≡ 16) (r : List ℕ) where
  size : length (link_words l) ≡ 35
  size = words_long l long

  first_is : take 35 (link_words l ++ r) ≡ link_words l
  first_is = ap (λ (k : ℕ). take k (link_words l ++ r)) (sym size) ∙ take-append_seam (link_words l) r

  rest_is : drop 35 (link_words l ++ r) ≡ r
  rest_is = ap (λ (k : ℕ). drop k (link_words l ++ r)) (sym size) ∙ drop-append_seam (link_words l) r

  -- one share further
  take_further : (i : ℕ) → take (35 * suc i) (link_words l ++ r) ≡ link_words l ++ take (35 * i) r
  take_further i =
      let at : 35 * suc i ≡ length (link_words l) + 35 * i = omega (arith, size) in
      ap (λ (k : ℕ). take k (link_words l ++ r)) at ∙ take-append-add (link_words l) r (35 * i)

  drop_further : (i : ℕ) → drop (35 * suc i) (link_words l ++ r) ≡ drop (35 * i) r
  drop_further i =
      let at : 35 * suc i ≡ length (link_words l) + 35 * i = omega (arith, size) in
      ap (λ (k : ℕ). drop k (link_words l ++ r)) at ∙ drop-append-add (link_words l) r (35 * i)

-- links laid out and taken up again are the same
pub links_back : (ls : List Link) → AllLong ls → links_in (length ls) (laid ls) ≡ ls
unfolding links_in laid AllLong
links_back [] a = refl
links_back (l ∷ ls) a =
    ap (λ (r : List ℕ). link_in r ∷ links_in (length ls) (drop 35 (link_words l ++ laid ls))) (first_is l a.0 (laid ls))
    ∙ ap (λ (x : Link). x ∷ links_in (length ls) (drop 35 (link_words l ++ laid ls))) (link_back l a.0)
    ∙ ap (λ (r : List ℕ). l ∷ links_in (length ls) r) (rest_is l a.0 (laid ls))
    ∙ ap (λ (r : List Link). l ∷ r) (links_back ls a.1)

-- another link is another share
laid_set : (ls : List Link) (i : ℕ) (x : Link) → AllLong ls → i < length ls
    → laid (set ls i x) ≡ take (35 * i) (laid ls) ++ (link_words x ++ drop 35 (drop (35 * i) (laid ls)))
unfolding laid AllLong
laid_set [] i x a h = absurd (omega arith)
laid_set (l ∷ ls) zero x a h = ap (λ (r : List ℕ). link_words x ++ r) (sym (rest_is l a.0 (laid ls)))
laid_set (l ∷ ls) (suc i) x a h =
    let r : List ℕ = laid ls in
    ap (λ (y : List ℕ). link_words l ++ y) (laid_set ls i x a.1 (omega arith))
    ∙ sym (append_assoc (link_words l) (take (35 * i) r) (link_words x ++ drop 35 (drop (35 * i) r)))
    ∙ ap (λ (y : List ℕ). y ++ (link_words x ++ drop 35 (drop (35 * i) r))) (sym (take_further l a.0 r i))
    ∙ ap (λ (y : List ℕ). take (35 * suc i) (link_words l ++ r) ++ (link_words x ++ drop 35 y)) (sym (drop_further l a.0 r i))

pub stored : (ws : List ℕ) (p : ℕ) (x : Link) → length ws ≡ 140 → is_peer p ≡ true → with_share link_size ws p (link_words x) ≡ laid (set (links_in peers ws) (p - 1) x)
stored ws p x long e =
    let f = peer_facts p e in
    let n : length (links_in peers ws) ≡ 4 = links_long peers ws in
    sym (laid_set (links_in peers ws) (p - 1) x (all_long peers ws) (omega (arith, f.0, f.1, n))
    ∙ ap (λ (l : List ℕ). with_share link_size l p (link_words x)) (laid_back peers ws long))

-- links as many as before, and as long
long_set : (ls : List Link) (i : ℕ) (x : Link) → AllLong ls → length x.entries ≡ 16 → AllLong (set ls i x)
unfolding AllLong
long_set [] i x a h = a
long_set (l ∷ ls) zero x a h = (h, a.1)
long_set (l ∷ ls) (suc i) x a h = (a.0, long_set ls i x a.1 h)

-- four links stored one after the other are all that there is
pub four_stored : (ws : List ℕ) (ls : List Link) → length ws ≡ 140 → length ls ≡ 4 → AllLong ls → stored_all ws ls ≡ laid ls
unfolding links_in AllLong
four_stored ws (a ∷ b ∷ c ∷ d ∷ []) long four l =
    let s : List Link = links_in 4 ws in
    let s1 : List Link = set s 0 a in
    let s2 : List Link = set s1 1 b in
    let s3 : List Link = set s2 2 c in
    let l1 : AllLong s1 = long_set s 0 a (all_long 4 ws) l.0 in
    let l2 : AllLong s2 = long_set s1 1 b l1 l.1.0 in
    let l3 : AllLong s3 = long_set s2 2 c l2 l.1.1.0 in
    ap (λ (r : List ℕ). stored_one (stored_one (stored_one r (a ∷ b ∷ c ∷ d ∷ []) 2 1) (a ∷ b ∷ c ∷ d ∷ []) 3 2) (a ∷ b ∷ c ∷ d ∷ []) 4 3) (stored ws 1 a long refl)
    ∙ ap (λ (r : List ℕ). stored_one (stored_one r (a ∷ b ∷ c ∷ d ∷ []) 3 2) (a ∷ b ∷ c ∷ d ∷ []) 4 3) (sym (laid_set s1 1 b l1 (omega arith)))
    ∙ ap (λ (r : List ℕ). stored_one r (a ∷ b ∷ c ∷ d ∷ []) 4 3) (sym (laid_set s2 2 c l2 (omega arith)))
    ∙ sym (laid_set s3 3 d l3 (omega arith))
four_stored ws [] long four l = absurd (omega arith)
four_stored ws (a ∷ []) long four l = absurd (omega arith)
four_stored ws (a ∷ b ∷ []) long four l = absurd (omega arith)
four_stored ws (a ∷ b ∷ c ∷ []) long four l = absurd (omega arith)
four_stored ws (a ∷ b ∷ c ∷ d ∷ e ∷ ls) long four l = absurd (omega arith)
