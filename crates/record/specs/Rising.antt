-- Arrays of files whose names rise.
use Rattle.std.specs.Prelude.{ℕ, Bool, true, false, ◌&&◌, List, [], ◌∷◌, length, ◌==◌}
use Rattle.xdr.specs.Reading.{Reading, taken, refused}
use Rattle.xdr.specs.Format.{read}
use Rattle.order.specs.Order.{is_less, compare_lists}
use Rattle.record.specs.File.{File, files}

-- the first of some files, if there is one, has a name above this one
abbrev pub is_above : List ℕ → List File → Bool
is_above n [] = true
is_above n (f ∷ fs) = is_less (compare_lists n f.name)

-- names strictly rising
abbrev pub is_rising : List File → Bool
is_rising [] = true
is_rising (f ∷ fs) = is_above f.name fs && is_rising fs

-- the files that were read take so many bytes exactly, and their names rise
abbrev pub fill_rising : ℕ → Reading (List File) → Bool
fill_rising size (taken fs used) = used == size && is_rising fs
fill_rising size (refused k p) = false

-- bytes that are an array of files, as many as the limit at most, and nothing else, names rising
unfoldable pub is_rising_array : (limit : ℕ) → List ℕ → Bool
is_rising_array limit s = fill_rising (length s) (read (files limit) s)
