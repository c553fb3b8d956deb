-- What a lent buffer holds after bytes were put into it.
use Rattle.std.specs.Prelude.{ℕ, ◌+◌, List, [], ◌++◌, ◌≡◌, Bool, cond, length, take, drop, leb}
use Rattle.xdr.specs.Format.{bytes, encode}
use Rattle.xdr.specs.Fields.{word}

-- an accepted filling, with room for it: the first bytes are changed, and no others
abbrev pub filled : List ℕ → List ℕ → List ℕ
filled out l = l ++ drop (length l) out

-- bytes at a place, and the rest as it was
abbrev pub over : List ℕ → ℕ → List ℕ → List ℕ
over out at l = take at out ++ filled (drop at out) l

-- whether there is room for the bytes at a place
abbrev pub has_room : List ℕ → ℕ → List ℕ → Bool
has_room out at l = leb (at + length l) (length out)

-- how many bytes are put at a place: all, or none where there is no room for all
abbrev pub put_count : List ℕ → ℕ → List ℕ → ℕ
put_count out at l = cond (has_room out at l) (length l) 0

-- what the buffer then holds
abbrev pub put : List ℕ → ℕ → List ℕ → List ℕ
put out at l = cond (has_room out at l) (over out at l) out

-- what a call promises that puts bytes at a place: how many it put, and the buffer
abbrev pub Puts : (l out : List ℕ) → (at count : ℕ) → (after : List ℕ) → Type 0
Puts l out at count after = (count ≡ put_count out at l) × (after ≡ put out at l)

-- an opaque's length, contents and pad: nothing where no word holds the length
abbrev pub opaque_bytes : List ℕ → List ℕ
opaque_bytes l = cond (leb (length l) 4294967295) (encode (bytes word) l) []
