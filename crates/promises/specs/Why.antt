-- Why a block isn't coming, in words: one reason is true and no other. `Held` names the first local record and block that hold it, and `Wanted` goes by the request list.
use Rattle.std.specs.Prelude.{Ok, Err}
use Rattle.std.specs.declared.result.Result.{Result}
use Rattle.xdr.specs.declared.answer.Refusal.{Refusal}
use Rattle.std.specs.Prelude.{ℕ, ◌≤◌, ◌≡◌, true, false, length}
use mathlib.Core.List.{List, ◌∷◌, ◌++◌, map, Memᴰ}
use Rattle.xdr.specs.Answers.{at_start}
use Rattle.record.specs.Block.{Block}
use Rattle.record.specs.File.{File, is_deleted, is_invalid}
use Rattle.table.specs.Table.{all_good, records}
use Rattle.merge.specs.Highest.{joined}
use Rattle.want.specs.Listing.{listed}
use Rattle.want.specs.declared.list.Wanted.{Wanted}
use Rattle.reason.specs.Reasons.{why_of}
use Rattle.reason.specs.declared.reasons.Reason.{Reason}
use Rattle.reason.specs.declared.reasons.Reason.TheVariants as R
use Rattle.promises.specs.RequestList.{Missing, Asks, ExactList}

-- the highest record of a name
pub record HighestOf (highs : List File) (name : List ℕ) : Type 0 where
  pub highest : File
  pub among : Memᴰ highest highs
  pub named : highest.name ≡ name

-- block number n of it, where it is valid and undeleted
pub record BlockOf {highs : List File} {name : List ℕ} (h : HighestOf highs name) (n : ℕ) : Type 0 where
  pub front : List Block
  pub block : Block
  pub rest : List Block
  pub within : listed h.highest ≡ front ++ (block ∷ rest)
  pub number : length front ≡ n

-- no block of some has the Length and the hash of this one
abbrev pub NoneSame : List Block → Block → Type 0
NoneSame l b = (c : Block) → Memᴰ c l → c.size ≡ b.size → c.hash ≡ b.hash → ⊥

-- block j of record r is the first that has them in a valid, undeleted record
pub record FirstHeld (local : List File) (b : Block) (r j : ℕ) : Type 0 where
  pub before : List File
  pub holder : File
  pub after : List File
  pub among : local ≡ before ++ (holder ∷ after)
  pub record_number : length before ≡ r
  pub front : List Block
  pub same : Block
  pub rest : List Block
  pub within : listed holder ≡ front ++ (same ∷ rest)
  pub block_number : length front ≡ j
  pub size : same.size ≡ b.size
  pub hash : same.hash ≡ b.hash
  pub none_before : (f : File) → Memᴰ f before → NoneSame (listed f) b
  pub none_in_front : NoneSame front b

-- the request list has an entry for block number n of a name, with this peer
pub record ListHas {local : List ℕ} {peers : List (List ℕ)} (x : ExactList local peers) (name : List ℕ) (n peer : ℕ) : Type 0 where
  pub missing : Missing x.highs (records local)
  pub named : missing.highest.name ≡ name
  pub number : length missing.front ≡ n
  pub entry : Wanted
  pub listed_there : Memᴰ entry x.list
  pub asks : Asks (map records peers) missing entry
  pub peer_is : entry.peer ≡ peer

-- what makes each reason true
abbrev pub Because : {local : List ℕ} → {peers : List (List ℕ)} → ExactList local peers → (name : List ℕ) → (n : ℕ) → Result Reason Refusal → Type 0
Because {local} {peers} x name n (Ok R.NoSuchName) = (f : File) → Memᴰ f (joined (map records (local ∷ peers))) → f.name ≡ name → ⊥
Because x name n (Ok R.Deleted) = (h : HighestOf x.highs name) × (is_deleted h.highest.flags ≡ true)
Because x name n (Ok R.Invalid) = (h : HighestOf x.highs name) × (is_deleted h.highest.flags ≡ false) × (is_invalid h.highest.flags ≡ true)
Because x name n (Ok R.NoSuchBlock) =
    (h : HighestOf x.highs name) × (is_deleted h.highest.flags ≡ false) × (is_invalid h.highest.flags ≡ false) × (length h.highest.blocks ≤ n)
Because {local} x name n (Ok (R.Held r j)) = (h : HighestOf x.highs name) × (b : BlockOf h n) × FirstHeld (records local) b.block r j
Because x name n (Ok (R.Wanted peer)) = ListHas x name n peer
Because x name n (Err r) = ⊥

-- `why` answers with a true reason, and no other is true
pub record Answered {local : List ℕ} {peers : List (List ℕ)} (x : ExactList local peers) (name : List ℕ) (n : ℕ) : Type 0 where
  pub holds : Because x name n (why_of local peers name n)
  pub alone : (r : Result Reason Refusal) → Because x name n r → r ≡ why_of local peers name n

-- 15 where a table is not good, else the reason
pub record Reasoned (local : List ℕ) (peers : List (List ℕ)) (name : List ℕ) (n : ℕ) : Type 0 where
  pub refused : all_good (local ∷ peers) ≡ false → why_of local peers name n ≡ Err (at_start 15)
  pub given : all_good (local ∷ peers) ≡ true → (x : ExactList local peers) × Answered x name n
