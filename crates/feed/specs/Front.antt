-- The first four bytes of a message, its header.
use Rattle.std.specs.declared.option.Option.{Option}
use Rattle.std.specs.Prelude.{ℕ, ◌+◌, ◌*◌, ◌^◌, ◌≤◌, ◌<◌, List, [], ◌∷◌, ◌≡◌, cond, length, leb, eqb, Some, None}
use Rattle.xdr.specs.Number.{big_endian}
use Rattle.message.specs.Header.{type_of, id_of}
use Rattle.feed.specs.declared.state.Front.{Front}
use Rattle.feed.specs.declared.state.Header.{Header}

-- before any byte
abbrev pub no_front : Front
no_front = record { have = 0; value = 0 }

-- after some bytes, of which those after the fourth don't count
abbrev pub front_after : Front → List ℕ → Front
front_after f [] = f
front_after f (b ∷ l) = cond (eqb f.have 4) f (front_after (record { have = f.have + 1; value = f.value * 256 + b }) l)

-- type and ID of a header's number
abbrev pub header_fields : ℕ → Header
header_fields h = record { kind = type_of h; id = id_of h }

-- what the first bytes tell: type and ID of the header, once it is there
unfoldable pub header_in : Front → Option Header
header_in f = cond (eqb f.have 4) (Some (header_fields f.value)) None

-- type and ID of the header that bytes begin with
abbrev pub header_of : List ℕ → Option Header
header_of s = cond (leb 4 (length s)) (Some (header_fields (big_endian 4 s))) None

-- at most four bytes, and fewer are the number of as many
pub record FrontFits (f : Front) : Type 0 where
  pub four : f.have ≤ 4
  pub number : f.have ≤ 3 → f.value < 256 ^ f.have

-- the first bytes after a run
pub record FrontOver (f : Front) (run : List ℕ) (r : Front) : Type 0 where
  pub is : r ≡ front_after f run
  pub fits : FrontFits r
