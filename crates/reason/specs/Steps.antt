-- What only the steps of the code and their proofs need.
use Rattle.std.specs.Prelude.{ℕ, ◌<◌, List, [], ◌∷◌, ◌≡◌, cond, Some, None}
use Rattle.std.specs.declared.option.Option.{Option}
use Rattle.order.specs.Order.{is_equal, compare_lists}
use Rattle.record.specs.File.{File}
use Rattle.table.specs.Steps.Standing.{At}
use Rattle.merge.specs.Merged.{higher}
use Rattle.want.specs.Steps.Places.{table_at}
use Rattle.want.specs.Steps.Head.{Stood}
use Rattle.reason.specs.declared.highest.Best.{Best}

-- the record of a name, and those after it
abbrev pub named_from : (name : List ℕ) → List File → List File
named_from name [] = []
named_from name (f ∷ fs) = cond (is_equal (compare_lists f.name name)) (f ∷ fs) (named_from name fs)

-- the record of a name, alone, where there is one
abbrev pub lookup : (name : List ℕ) → List File → List File
lookup name [] = []
lookup name (f ∷ fs) = cond (is_equal (compare_lists f.name name)) (f ∷ []) (lookup name fs)

-- the higher of two, where both are there
abbrev pub higher_in : (fs gs : List File) → List File
higher_in [] gs = gs
higher_in (f ∷ fs) [] = f ∷ []
higher_in (f ∷ fs) (g ∷ gs) = higher f g ∷ []

-- the first of some records
abbrev pub first_of : List File → List File
first_of [] = []
first_of (f ∷ fs) = f ∷ []

-- the record that stands at a place of a table, or its end
pub record HeadAt (t : List ℕ) (at : ℕ) (l : List File) : Type 0 where
  pub left : List File
  pub here : At t at left
  pub is : l ≡ first_of left

-- a record that stands in one of the tables, alone
pub record BestIn (ts : List (List ℕ)) (b : Best) (l : List File) : Type 0 where
  pub small : b.table < 5
  pub stood : Stood (table_at ts b.table) b.fields
  pub is : l ≡ stood.head ∷ []

-- the best record so far: none, or one that stands in a table
pub record BestOf (ts : List (List ℕ)) (x : Option Best) (l : List File) : Type 0 where
  pub none : x ≡ None → l ≡ []
  pub some : (b : Best) → x ≡ Some b → BestIn ts b l
