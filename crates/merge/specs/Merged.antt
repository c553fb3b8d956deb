-- The merged table of one or more tables: the highest record of each name in any of them, names rising.
use Rattle.std.specs.Prelude.{List, [], ◌∷◌}
use Rattle.record.specs.File.{File}
use Rattle.table.specs.Newest.{compare_files}
use Rattle.table.specs.Insert.{insert}
use Rattle.std.specs.declared.cmp.Ordering.{Ordering}
use Rattle.std.specs.declared.cmp.Ordering.TheVariants.{Less, Equal, Greater}

-- one of two records, by how the first compares with the second
abbrev pub higher_by : Ordering → File → File → File
higher_by Less f g = g
higher_by Equal f g = f
higher_by Greater f g = f

-- the higher of two records of one name
abbrev pub higher : File → File → File
higher f g = higher_by (compare_files f g) f g

-- all records of a table among records whose names rise, of one name the higher
abbrev pub insert_all : List File → List File → List File
insert_all [] l = l
insert_all (f ∷ fs) l = insert higher f (insert_all fs l)

-- the records of the merged table of some tables
unfoldable pub merged_of : List (List File) → List File
merged_of [] = []
merged_of (t ∷ ts) = insert_all t (merged_of ts)
