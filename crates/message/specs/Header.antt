-- The header word: 4 bits version, 12 bits Message ID, 8 bits type, 8 bits reserved, from the top.
use Rattle.std.specs.Prelude.{ℕ, ◌+◌, ◌*◌, ◌/◌, ◌%◌, Bool, ◌&&◌, leb, eqb}
use Rattle.xdr.specs.Format.{Format, checked}
use Rattle.xdr.specs.Fields.{word}
use Rattle.message.specs.declared.edition.Edition.{Edition}
use Rattle.message.specs.declared.edition.Edition.TheVariants as E

-- the version: the top 4 bits
abbrev pub version_of : ℕ → ℕ
version_of h = h / 268435456

-- the Message ID: the next 12 bits
abbrev pub id_of : ℕ → ℕ
id_of h = h / 65536 % 4096

-- the type: the next 8 bits
abbrev pub type_of : ℕ → ℕ
type_of h = h / 256 % 256

-- the reserved bits: the low 8
abbrev pub reserved_of : ℕ → ℕ
reserved_of h = h % 256

-- the header of a message with an ID and a type: version and reserved are zero
abbrev pub header_of : (id type : ℕ) → ℕ
header_of id type = id * 65536 + type * 256

-- the highest type: the old edition has no Options
abbrev pub last_type : Edition → ℕ
last_type E.Old = 6
last_type E.New = 7

-- the types of an edition: from 1 to the highest
abbrev pub is_type : Edition → ℕ → Bool
is_type e t = leb 1 t && leb t (last_type e)

-- one field, with its checks in order
abbrev pub header : Edition → Format ℕ
header e =
    checked 4 (λ h. eqb (reserved_of h) 0)
    (checked 3 (λ h. is_type e (type_of h))
    (checked 2 (λ h. eqb (version_of h) 0) word))
