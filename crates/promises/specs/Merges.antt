-- A list of merges: calls on slices that lie in one memory, refused ones included, and anybody's writes between them.
use Rattle.std.specs.Prelude.{ℕ, ◌<◌, ◌≡◌, Bool, true, false, ◌&&◌, cond, length}
use mathlib.Core.List.{List, [], ◌∷◌, ◌++◌, map, Memᴰ}
use Rattle.xdr.specs.Filling.{Outcome, gives, refuses, in_room, buffer_after}
use Rattle.table.specs.Table.{is_good, all_good, records, table_of, resulting_table}
use Rattle.merge.specs.Merged.{merged_of}
use Rattle.merge.specs.Highest.{joined, Highest}
use Rattle.merge.specs.Answer.{merge_outcome}
use Rattle.promises.specs.Memory.{Memory, Region, bytes_in, written, is_apart}

-- a slice: where it lies, whether it is a result, and its origins, which are starting slices as they began
pub record Slice : Type 0 where
  pub region : Region
  pub is_result : Bool
  pub origins : List (List ℕ)

-- the memory, and the slices that a call may be given (document 01: at hand)
pub record State : Type 0 where
  pub memory : Memory
  pub slices : List Slice

-- what may happen
pub data Action : Type 0 where
  -- merge is called with two of the slices, or one twice, and a buffer
  call : (x y : Slice) (buffer : Region) → Action
  -- anybody writes bytes from an address on
  write : (at : ℕ) (bytes : List ℕ) → Action

-- a starting slice has itself as origin
abbrev pub starting : Memory → Region → Slice
starting m r = record { region = r; is_result = false; origins = bytes_in m r ∷ [] }

-- at the start there are the starting slices
abbrev pub start : Memory → List Region → State
start m rs = record { memory = m; slices = map (starting m) rs }

-- the slices that stay when a region is written
abbrev pub untouched : Region → List Slice → List Slice
untouched r [] = []
untouched r (x ∷ xs) = cond (is_apart x.region r) (x ∷ untouched r xs) (untouched r xs)

-- an accepted call's result is the bytes filled, and has the origins of both
abbrev pub slices_after : Outcome → (x y : Slice) → (at : ℕ) → List Slice → List Slice
slices_after (refuses k p) x y at slices = slices
slices_after (gives l) x y at slices =
    let r : Region = record { at = at; size = length l } in
    record { region = r; is_result = true; origins = x.origins ++ y.origins } ∷ untouched r slices

-- what the contract of merge says of two slices
abbrev pub merging : Memory → (x y : Slice) → Outcome
merging m x y = merge_outcome (bytes_in m x.region) (bytes_in m y.region)

-- what is after an action: a call leaves the buffer as the contract of merge says, and all else as it was
abbrev pub step : State → Action → State
step s (call x y b) =
    let o : Outcome = in_room b.size (merging s.memory x y) in
    record { memory = written s.memory b.at (buffer_after o (bytes_in s.memory b)); slices = slices_after o x y b.at s.slices }
step s (write at l) = record { memory = written s.memory at l; slices = untouched (record { at = at; size = length l }) s.slices }

-- what is after some actions
abbrev pub run : State → List Action → State
run s [] = s
run s (e ∷ es) = run (step s e) es

-- a call is given two of the slices and a buffer that overlaps neither
abbrev pub Allowed : State → Action → Type 0
Allowed s (call x y b) = Memᴰ x s.slices × Memᴰ y s.slices × (is_apart x.region b ≡ true) × (is_apart y.region b ≡ true)
Allowed s (write at l) = Unit {0}

-- each of some actions is allowed when it happens
abbrev pub AllAllowed : State → List Action → Type 0
AllAllowed s [] = Unit {0}
AllAllowed s (e ∷ es) = Allowed s e × AllAllowed (step s e) es

-- the merged table of some tables
abbrev pub merged_table : List (List ℕ) → List ℕ
merged_table ts = table_of (merged_of (map records ts))

-- what is claimed of all slices at hand
pub record Kept (s : State) : Type 0 where
  -- the origins of a result are good tables
  pub results : (x : Slice) → Memᴰ x s.slices → x.is_result ≡ true → all_good x.origins ≡ true
  -- a slice is a good table exactly if its origins are
  pub good : (x : Slice) → Memᴰ x s.slices → is_good (bytes_in s.memory x.region) ≡ all_good x.origins
  -- and is then the merged table of its origins, byte for byte
  pub same : (x : Slice) → Memᴰ x s.slices → all_good x.origins ≡ true → bytes_in s.memory x.region ≡ merged_table x.origins
  -- so it has, for each name in any of its origins, the highest record, names rising, and nothing else
  pub highest : (x : Slice) → Memᴰ x s.slices → all_good x.origins ≡ true → Highest (joined (map records x.origins)) (records (bytes_in s.memory x.region))
  -- merging two good ones goes by the merged table of all their origins: 19, and in the room that a call lends 14 and the length reported;
  -- merging others is refused with 15
  pub answers : (x y : Slice) → Memᴰ x s.slices → Memᴰ y s.slices
      → merging s.memory x y ≡ cond (all_good x.origins && all_good y.origins) (resulting_table (merged_of (map records (x.origins ++ y.origins)))) (refuses 15 0)

-- before each action and after the last
abbrev pub Throughout : State → List Action → Type 0
Throughout s [] = Kept s
Throughout s (e ∷ es) = Kept s × Throughout (step s e) es

-- memory holds bytes
abbrev pub HoldsBytes : Memory → Type 0
HoldsBytes m = (k : ℕ) → m k < 256

-- the same tables, in any order and any number of times
abbrev pub SameTables : List (List ℕ) → List (List ℕ) → Type 0
SameTables ts us = ((t : List ℕ) → Memᴰ t ts → Memᴰ t us) × ((t : List ℕ) → Memᴰ t us → Memᴰ t ts)
