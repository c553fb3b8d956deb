-- For the steps of accepting: the records of a message in order, by their places.
use Rattle.std.specs.Prelude.{ℕ, ◌+◌, ◌-◌, ◌≤◌, List, [], ◌∷◌, ◌++◌, ◌≡◌, Bool, false, length, take, drop, Ok, Err}
use Rattle.std.specs.declared.result.Result.{Result}
use Rattle.xdr.specs.Format.{Valid, AllOf}
use Rattle.xdr.specs.Filling.{Outcome, refuses}
use Rattle.record.specs.File.{File, file}
use Rattle.table.specs.Limits.{records_limit}
use Rattle.table.specs.Table.{records, table_of}
use Rattle.table.specs.Steps.Standing.{At}
use Rattle.accept.specs.Resulting.{is_named, by_name, resulting}
use Rattle.accept.specs.Accepting.{unrepeated, of_records}

-- an array of records, encoded
pub record IsArray (s : List ℕ) : Type 0 where
  pub is : s ≡ table_of (records s)
  pub valid : AllOf (λ f. Valid file f) (records s)
  pub few : length (records s) ≤ records_limit

-- the resulting records of an array of records and an old table
abbrev pub result_of : (update : Bool) → (s old : List ℕ) → List File
result_of update s old = resulting update (records s) (records old)

-- what accepting an array does that begins at a place
abbrev pub of_array : (update : Bool) → (start : ℕ) → (s old : List ℕ) → Outcome
of_array update start s old = of_records update (start + 4) (records s) (records old)

-- a place put before place j: those behind it move up, and the last is lost
abbrev pub inserted_at : (places : List ℕ) → (j at : ℕ) → List ℕ
inserted_at places j at = take j places ++ (at ∷ take (length places - 1 - j) (drop j places))

-- the records stand at the places
abbrev pub Places : List ℕ → List ℕ → List File → Type 0
Places s [] [] = Unit {0}
Places s [] (f ∷ fs) = ⊥
Places s (p ∷ ps) [] = ⊥
Places s (p ∷ ps) (f ∷ fs) = ((rest : List File) × At s p (f ∷ rest)) × Places s ps fs

-- no two records have one name
abbrev pub Distinct : List File → Type 0
Distinct [] = Unit {0}
Distinct (f ∷ fs) = (is_named f.name fs ≡ false) × Distinct fs

-- all records of the array in order
pub record SortedPlaces (s places : List ℕ) : Type 0 where
  pub array : IsArray s
  pub standing : Places s places (by_name (records s) [])
  pub distinct : Distinct (records s)
  pub unrefused : (base : ℕ) (next : Outcome) → unrepeated [] (base + 4) (records s) next ≡ next

-- what sorting answers and leaves: the places in order, or the place of the first record whose name stood before
abbrev pub SortedTo : (s places : List ℕ) → Result ℕ ℕ → Type 0
SortedTo s places (Ok n) = (n ≤ length places) × SortedPlaces s (take n places)
SortedTo s places (Err p) = (p ≤ length s) × ((base : ℕ) (next : Outcome) → unrepeated [] (base + 4) (records s) next ≡ refuses 13 (base + p))
