-- The request list is exact, each block with its lowest peer.
use Rattle.std.specs.Prelude.{ℕ, ◌≤◌, ◌<◌, ◌≡◌, Bool, true, false, length, get_or}
use mathlib.Core.List.{List, [], ◌∷◌, ◌++◌, map, Memᴰ}
use Rattle.xdr.specs.Filling.{gives, refuses}
use Rattle.record.specs.Block.{Block, total_size}
use Rattle.record.specs.File.{File}
use Rattle.table.specs.Table.{all_good, records}
use Rattle.merge.specs.Highest.{joined, Highest}
use Rattle.want.specs.Listing.{listed, lists_there}
use Rattle.want.specs.Wanted.{Ordered, list_bytes, request_outcome}
use Rattle.want.specs.declared.list.Wanted.{Wanted}

-- a block to ask for, where the highest records are given
pub record Missing (highs local : List File) : Type 0 where
  -- of a highest record
  pub before : List File
  pub highest : File
  pub after : List File
  pub among : highs ≡ before ++ (highest ∷ after)
  -- that is valid and undeleted
  pub front : List Block
  pub block : Block
  pub rest : List Block
  pub within : listed highest ≡ front ++ (block ∷ rest)
  -- and of whose Length and hash no valid, undeleted local record lists a block
  pub unheld : (f : File) → Memᴰ f local → (b : Block) → Memᴰ b (listed f) → b.size ≡ block.size → b.hash ≡ block.hash → ⊥

-- peer k lists it there (the local table stands at 0, so that peers count from 1)
abbrev pub is_listed_by : {highs local : List File} → (peers : List (List File)) → Missing highs local → ℕ → Bool
is_listed_by {highs} {local} peers m k = lists_there (get_or (local ∷ peers) k []) m.highest.name (total_size m.front) m.block

-- the entry for it: its file's number, its own, the sum of the Lengths before it, its Length, and the lowest peer that lists it there
pub record Asks {highs local : List File} (peers : List (List File)) (m : Missing highs local) (w : Wanted) : Type 0 where
  pub file : w.file ≡ length m.before
  pub number : w.block ≡ length m.front
  pub offset : w.offset ≡ total_size m.front
  pub size : w.size ≡ m.block.size
  pub from_one : 1 ≤ w.peer
  pub to_last : w.peer ≤ length peers
  pub lists : is_listed_by peers m w.peer ≡ true
  pub lowest : (k : ℕ) → 1 ≤ k → k < w.peer → is_listed_by peers m k ≡ false

-- the entries are those for the missing blocks, and no others, in order and each once
pub record Exact (highs local : List File) (peers : List (List File)) (l : List Wanted) : Type 0 where
  pub only : (w : Wanted) → Memᴰ w l → (m : Missing highs local) × Asks peers m w
  pub all : (m : Missing highs local) → (w : Wanted) × Memᴰ w l × Asks peers m w
  pub ordered : Ordered l

-- the exact list of good tables
pub record ExactList (local : List ℕ) (peers : List (List ℕ)) : Type 0 where
  -- over the highest records of each name in all five
  pub highs : List File
  pub highest : Highest (joined (map records (local ∷ peers))) highs
  pub list : List Wanted
  pub exact : Exact highs (records local) (map records peers) list
  -- request_list gives its bytes
  pub filled : request_outcome local peers ≡ gives (list_bytes list)

-- what request_list answers before the room: 15 where a table is not good, else the exact list
pub record Requested (local : List ℕ) (peers : List (List ℕ)) : Type 0 where
  pub refused : all_good (local ∷ peers) ≡ false → request_outcome local peers ≡ refuses 15 0
  pub given : all_good (local ∷ peers) ≡ true → ExactList local peers
