-- What only the steps of the code and their proofs need.
use Rattle.std.specs.Prelude.{ℕ, ◌≤◌, List, ◌≡◌, length, get_or}
use Rattle.link.specs.Requests.{total}
use Rattle.link.specs.OneLink.{outstanding}
use Rattle.link.specs.declared.list.Link.{Link}
use Rattle.queue.specs.Shares.{with_share}
use Rattle.queue.specs.Queue.{no_link}
use Rattle.queue_lent.specs.Words.{link_size, link_words}
use Rattle.queue_lent.specs.declared.totals.LinkTotal.{LinkTotal}

-- the totals of a link, which are within what sixteen words can sum to
pub record LinkTotals (l : Link) (r : LinkTotal) : Type 0 where
  pub count_is : r.count ≡ length (outstanding l)
  pub bytes_are : r.bytes ≡ total (outstanding l)
  pub few : r.count ≤ 16
  pub small : r.bytes ≤ 68719476736

-- words with another link of a peer, by the number of the peer in a list
abbrev pub stored_one : (words : List ℕ) → List Link → (peer entry : ℕ) → List ℕ
stored_one ws ls p i = with_share link_size ws p (link_words (get_or ls i no_link))

-- with other links of all four
abbrev pub stored_all : (words : List ℕ) → List Link → List ℕ
stored_all ws ls = stored_one (stored_one (stored_one (stored_one ws ls 1 0) ls 2 1) ls 3 2) ls 4 3
