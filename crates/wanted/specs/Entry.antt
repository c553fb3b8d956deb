-- What is read of a list's entries.
use Rattle.std.specs.Prelude.{ℕ, ◌+◌, ◌*◌, List, cond, ltb}
use Rattle.xdr.specs.Reading.{Reading, taken, refused}
use Rattle.xdr.specs.Format.{Format, read_at}
use Rattle.xdr.specs.Fields.{word, hyper}
use Rattle.wanted.specs.declared.entry.Entry.{Entry}

-- the number that was read, or 0
abbrev pub value_of : Reading ℕ → ℕ
value_of (taken n next) = n
value_of (refused k p) = 0

abbrev pub value_at : Format ℕ → List ℕ → ℕ → ℕ
value_at F s at = value_of (read_at F s at)

-- the five numbers from a place on
abbrev pub entry_from : List ℕ → ℕ → Entry
entry_from s at = record { file = value_at word s at; block = value_at word s (at + 4); offset = value_at hyper s (at + 8); size = value_at word s (at + 16); peer = value_at word s (at + 20) }

-- the entry of a number, 24 bytes each; the first for numbers that no list has
abbrev pub entry_of : List ℕ → ℕ → Entry
entry_of s i = entry_from s (cond (ltb i 100000) (i * 24) 0)
