-- What merging two tables does.
use Rattle.std.specs.Prelude.{ℕ, List, [], ◌∷◌, cond}
use Rattle.xdr.specs.Filling.{Outcome, refuses}
use Rattle.record.specs.File.{File}
use Rattle.table.specs.Table.{is_good, records, resulting_table}
use Rattle.merge.specs.Merged.{merged_of}

-- the merged records of two tables
unfoldable pub merged_records : List ℕ → List ℕ → List File
merged_records a b = merged_of (records a ∷ records b ∷ [])

-- the first table is good (15), the second too (15), and the merged table is within the limits (19)
unfoldable pub merge_outcome : List ℕ → List ℕ → Outcome
merge_outcome a b = cond (is_good a) (cond (is_good b) (resulting_table (merged_records a b)) (refuses 15 0)) (refuses 15 0)
