-- Good tables, and the records of a table.
use Rattle.std.specs.Prelude.{ℕ, List, [], ◌∷◌, Bool, true, ◌&&◌, cond, length, leb}
use Rattle.xdr.specs.Reading.{Reading, taken, refused}
use Rattle.xdr.specs.Format.{Format, read, encode}
use Rattle.xdr.specs.Filling.{Outcome, gives, refuses}
use Rattle.record.specs.File.{File, files}
use Rattle.record.specs.Rising.{is_rising_array}
use Rattle.table.specs.Limits.{records_limit, bytes_limit}

-- an array of records
abbrev pub table : Format (List File)
table = files records_limit

-- so many records in so many bytes are within the limits
abbrev pub is_within : (count size : ℕ) → Bool
is_within count size = leb count records_limit && leb size bytes_limit

-- a good table: an array of records and nothing else, names rising, within the limits
unfoldable pub is_good : List ℕ → Bool
is_good t = is_rising_array records_limit t && leb (length t) bytes_limit

-- each of some tables is good
abbrev pub all_good : List (List ℕ) → Bool
all_good [] = true
all_good (t ∷ ts) = is_good t && all_good ts

-- the records of a reading
abbrev pub records_read : Reading (List File) → List File
records_read (taken fs used) = fs
records_read (refused k p) = []

-- the records of a table: none where it can't be read
unfoldable pub records : List ℕ → List File
records t = records_read (read table t)

-- the bytes of records, of any number
unfoldable pub table_of : List File → List ℕ
table_of fs = encode table fs

-- a resulting table: its bytes, where it is within the limits (19)
abbrev pub resulting_table : List File → Outcome
resulting_table fs = cond (is_within (length fs) (length (table_of fs))) (gives (table_of fs)) (refuses 19 0)
