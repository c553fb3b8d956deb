-- The merged table in words, without a way to find it: the highest record of each name, names rising, and nothing else.
use mathlib.Core.List.{List, [], ◌∷◌, ◌++◌, Memᴰ}
use Rattle.std.specs.Prelude.{◌≡◌, true}
use Rattle.record.specs.File.{File}
use Rattle.table.specs.Newest.{compare_files}
use Rattle.record.specs.Rising.{is_rising}
use Rattle.std.specs.declared.cmp.Ordering.TheVariants.{Less}

-- the records of some tables
abbrev pub joined : List (List File) → List File
joined [] = []
joined (t ∷ ts) = t ++ joined ts

-- g is at least as high as f
abbrev pub AtLeast : (g f : File) → Type 0
AtLeast g f = compare_files g f ≡ Less → ⊥

-- among l there is a record of f's name that is at least as high
pub record Covered (l : List File) (f : File) : Type 0 where
  pub cover : File
  pub within : Memᴰ cover l
  pub named : cover.name ≡ f.name
  pub high : AtLeast cover f

-- l is the highest record of each name in fs, names rising
pub record Highest (fs l : List File) : Type 0 where
  pub rising : is_rising l ≡ true
  pub from : (f : File) → Memᴰ f l → Memᴰ f fs
  pub covers : (f : File) → Memᴰ f fs → Covered l f
