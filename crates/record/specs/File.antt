-- FileInfo: Name, Flags, Modified, Version and blocks.
use Rattle.std.specs.Prelude.{ℕ, ◌/◌, ◌%◌, Bool, List, length, ◌==◌, nat_le, nat_lt, refl}
use Rattle.xdr.specs.Format.{Format, array, pair, checked, via, encode}
use Rattle.xdr.specs.Fields.{word, hyper, up_to, text}
use Rattle.record.specs.Limits.{name_limit, flags_bound}
use Rattle.record.specs.Block.{Block, blocks}
use Rattle.record.specs.Name.{is_path}

-- `modified` is the number that the 64 bits are without a sign: Modified.antt has the sign
pub record File : Type 0 where
  pub name : List ℕ
  pub flags : ℕ
  pub modified : ℕ
  pub version : ℕ
  pub blocks : List Block

-- D, the value 4096: the file is deleted
abbrev pub is_deleted : ℕ → Bool
is_deleted f = f / 4096 % 2 == 1

-- I, the value 8192: the file is invalid
abbrev pub is_invalid : ℕ → Bool
is_invalid f = f / 8192 % 2 == 1

-- the low 12 bits: the Unix mode
abbrev pub mode : ℕ → ℕ
mode f = f % 4096

-- the name rule: text, not empty, and a way down from a folder
abbrev pub name : Format (List ℕ)
name = checked 24 is_path (checked 8 (λ l. nat_le 1 (length l)) (text name_limit))

-- Flags: the top 18 bits are zero
abbrev pub flags : Format ℕ
flags = checked 11 (λ f. nat_lt f flags_bound) word

-- the file with these fields
abbrev pub to_file : List ℕ × (ℕ × (ℕ × (ℕ × List Block))) → File
to_file p = record { name = p.0; flags = p.1.0; modified = p.1.1.0; version = p.1.1.1.0; blocks = p.1.1.1.1 }

-- the fields of a file
abbrev pub from_file : File → List ℕ × (ℕ × (ℕ × (ℕ × List Block)))
from_file f = (f.name, (f.flags, (f.modified, (f.version, f.blocks))))

-- the fields from Flags to the end
abbrev pub after_name : Format (ℕ × (ℕ × (ℕ × List Block)))
after_name = pair flags λ f. pair hyper λ m. pair word λ v. blocks (is_deleted f)

-- a file: Name, and the fields after it
abbrev pub file : Format File
file = via to_file from_file (λ p. refl) (λ f. refl) (pair name λ n. after_name)

-- the encoded bytes from Flags to the end
abbrev pub from_flags : File → List ℕ
from_flags f = encode after_name (from_file f).1

-- an array of up to so many files
abbrev pub files : ℕ → Format (List File)
files limit = array (up_to limit) file
