-- A queue lent as words and bytes: for each of the peers 1 to 4 in turn 35 words (the window, the next ID, the count, and the ID and the Length of each of
-- 16 entries) and 512 bytes (the hash of each entry).
use Rattle.std.specs.Prelude.{ℕ, zero, suc, ◌+◌, ◌*◌, List, [], ◌∷◌, ◌++◌, get_or, take, drop}
use Rattle.link.specs.OneLink.{window_limit}
use Rattle.link.specs.declared.request.Request.{Request}
use Rattle.link.specs.declared.list.Link.{Link}
use Rattle.queue.specs.Queue.{peers}
use Rattle.queue.specs.declared.queue.RequestQueue.{RequestQueue}

-- f at 0, 1, .., n - 1
abbrev pub tabulated : {X : Type 0} → (ℕ → X) → ℕ → List X
tabulated f zero = []
tabulated f (suc n) = tabulated f n ++ (f n ∷ [])

-- entry i of a link's words
abbrev pub entry_at : List ℕ → ℕ → Request
entry_at ws i = record { id = get_or ws (3 + 2 * i) 0; size = get_or ws (4 + 2 * i) 0 }

-- the words of a link: 35
abbrev pub link_size : ℕ
link_size = 35

-- the link that they are
unfoldable pub link_in : List ℕ → Link
link_in ws = record { window = get_or ws 0 0; next = get_or ws 1 0; count = get_or ws 2 0; entries = tabulated (entry_at ws) window_limit }

-- so many links
unfoldable pub links_in : (count : ℕ) → List ℕ → List Link
links_in zero ws = []
links_in (suc n) ws = link_in (take link_size ws) ∷ links_in n (drop link_size ws)

-- the queue that words and hashes are
abbrev pub queue_of : (words hashes : List ℕ) → RequestQueue
queue_of ws hs = record { links = links_in peers ws; hashes = hs }

-- the ID and the Length of each request
abbrev pub pairs : List Request → List ℕ
pairs [] = []
pairs (r ∷ rs) = r.id ∷ r.size ∷ pairs rs

-- the words of a link
abbrev pub link_words : Link → List ℕ
link_words l = l.window ∷ l.next ∷ l.count ∷ pairs l.entries

-- the words of some links
unfoldable pub laid : List Link → List ℕ
laid [] = []
laid (l ∷ ls) = link_words l ++ laid ls

-- the words of a queue
abbrev pub words_of : RequestQueue → List ℕ
words_of q = laid q.links
