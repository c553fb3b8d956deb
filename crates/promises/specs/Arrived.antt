-- Request §13 of document 02: when everything has arrived.
use Rattle.std.specs.Prelude.{ℕ, ◌≤◌, ◌<◌, true, false, ◌≡◌, length}
use mathlib.Core.List.{List, [], ◌∷◌, ◌++◌, map, Memᴰ}
use Rattle.xdr.specs.Number.{IsBytes}
use Rattle.xdr.specs.Filling.{gives, in_room}
use Rattle.record.specs.File.{File}
use Rattle.table.specs.Table.{is_good, records}
use Rattle.merge.specs.Highest.{joined, Highest}
use Rattle.merge.specs.Answer.{merge_outcome}
use Rattle.want.specs.Wanted.{request_outcome}
use Rattle.promises.specs.Memory.{bytes_in}
use Rattle.promises.specs.Merges.{Slice, State, merging, SameTables}
use Rattle.promises.specs.RequestList.{Missing, is_listed_by}

-- a table that was made of some tables by merges in any order and grouping, every one accepted
pub data MadeOf : List ℕ → List (List ℕ) → Type 0 where
  itself : (t : List ℕ) → IsBytes t → is_good t ≡ true → MadeOf t (t ∷ [])
  merged : (a b t : List ℕ) (of_a of_b : List (List ℕ)) → MadeOf a of_a → MadeOf b of_b → merge_outcome a b ≡ gives t → MadeOf t (of_a ++ of_b)

-- all of some tables are among others
abbrev pub AreAmong : List (List ℕ) → List (List ℕ) → Type 0
AreAmong ts us = (t : List ℕ) → Memᴰ t ts → Memᴰ t us

-- the new local table, which was made of the old one and the four peers'
pub record FetchingEnds (local : List ℕ) (peers : List (List ℕ)) (new : List ℕ) : Type 0 where
  -- the request list over it and the same peers is accepted with no bytes, in any room
  pub empty : (room : ℕ) → in_room room (request_outcome new peers) ≡ gives []
  -- merged again with any of the five, or with any table that was made of these alone, it comes back byte for byte, or 14 where the room is smaller than it
  pub as_first : (u : List ℕ) (origins : List (List ℕ)) → MadeOf u origins → AreAmong origins (local ∷ peers) → (room : ℕ) → in_room room (merge_outcome new u) ≡ in_room room (gives new)
  pub as_second : (u : List ℕ) (origins : List (List ℕ)) → MadeOf u origins → AreAmong origins (local ∷ peers) → (room : ℕ) → in_room room (merge_outcome u new) ≡ in_room room (gives new)

-- the same of calls on slices that lie in one memory: a slice at hand that was made of a local table and its peers', of all of them and nothing else
abbrev pub IsNewLocal : State → (local : List ℕ) → (peers : List (List ℕ)) → Slice → Type 0
IsNewLocal s local peers x = Memᴰ x s.slices × (x.is_result ≡ true) × SameTables x.origins (local ∷ peers)

-- merging it again with any slice at hand that was made of these alone
pub record FetchingEndsAt (s : State) (local : List ℕ) (peers : List (List ℕ)) (x : Slice) : Type 0 where
  pub empty : (room : ℕ) → in_room room (request_outcome (bytes_in s.memory x.region) peers) ≡ gives []
  pub as_first : (y : Slice) → Memᴰ y s.slices → AreAmong y.origins (local ∷ peers)
      → (room : ℕ) → in_room room (merging s.memory x y) ≡ in_room room (gives (bytes_in s.memory x.region))
  pub as_second : (y : Slice) → Memᴰ y s.slices → AreAmong y.origins (local ∷ peers)
      → (room : ℕ) → in_room room (merging s.memory y x) ≡ in_room room (gives (bytes_in s.memory x.region))

-- a peer lists a block there, and none with a lower number does
pub record HasPeer {highs local : List File} (peers : List (List File)) (m : Missing highs local) : Type 0 where
  pub peer : ℕ
  pub from_one : 1 ≤ peer
  pub to_last : peer ≤ length peers
  pub lists : is_listed_by peers m peer ≡ true
  pub lowest : (k : ℕ) → 1 ≤ k → k < peer → is_listed_by peers m k ≡ false

-- of the highest records over a local table and its peers', whatever list they are given as (there is one alone)
pub record HighestOver (local : List ℕ) (peers : List (List ℕ)) (highs : List File) : Type 0 where
  -- every block of a valid, undeleted one that isn't held locally has a peer that lists it there
  pub has_peer : (m : Missing highs (records local)) → HasPeer (map records peers) m
  -- so the list is empty exactly if every such block is held
  pub empty_if : (Missing highs (records local) → ⊥) → request_outcome local peers ≡ gives []
  pub only_if : request_outcome local peers ≡ gives [] → Missing highs (records local) → ⊥

-- for all lists that are the highest records
abbrev pub Always : (local : List ℕ) → (peers : List (List ℕ)) → Type 0
Always local peers = (highs : List File) → Highest (joined (map records (local ∷ peers))) highs → HighestOver local peers highs
