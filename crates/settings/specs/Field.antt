-- A field: a tag of one byte, a length of two bytes, and that many bytes of contents. What may be wrong with it.
use Rattle.std.specs.Prelude.{ℕ, ◌+◌, List, ◌∷◌, ◌++◌, Bool, cond, ◌&&◌, length, take, drop, leb, ltb, eqb}
use Rattle.xdr.specs.Number.{big_endian, digits}
use Rattle.xdr.specs.Text.{is_within, is_text}

-- a field as bytes
abbrev pub field : (tag : ℕ) → List ℕ → List ℕ
field tag l = tag ∷ (digits 2 (length l) ++ l)

-- by the bytes after a tag, how long the contents are said to be
abbrev pub size_of : List ℕ → ℕ
size_of l = big_endian 2 l

-- whether that many are there
abbrev pub is_whole : List ℕ → Bool
is_whole l = leb (2 + size_of l) (length l)

-- the contents
abbrev pub contents_of : List ℕ → List ℕ
contents_of l = take (size_of l) (drop 2 l)

-- tag 1, the window: one byte, 1 to 16
abbrev pub is_window : List ℕ → Bool
is_window l = eqb (length l) 1 && is_within 1 16 (big_endian 1 l)

-- tag 2, the byte allowance: four bytes, 131,072 to 524,288
abbrev pub is_allowance : List ℕ → Bool
is_allowance l = eqb (length l) 4 && is_within 131072 524288 (big_endian 4 l)

-- tag 3, the Repository: up to 64 bytes, by the text rule
abbrev pub is_repository : List ℕ → Bool
is_repository l = leb (length l) 64 && is_text l

-- tag 128, the note: any bytes, up to 255
abbrev pub is_note : List ℕ → Bool
is_note l = leb (length l) 255

-- what is wrong with a field's contents (26) or its tag (25); 0 is nothing, and so it is with any tag above 128
unfoldable pub wrong : (tag : ℕ) → List ℕ → ℕ
wrong tag l =
    cond (eqb tag 1) (cond (is_window l) 0 26)
    (cond (eqb tag 2) (cond (is_allowance l) 0 26)
    (cond (eqb tag 3) (cond (is_repository l) 0 26)
    (cond (ltb tag 128) 25
    (cond (eqb tag 128) (cond (is_note l) 0 26) 0))))

-- what is wrong with a field, by the bytes after its tag and the least tag that is in order: cut short or out of order (26), and then as above
unfoldable pub fault : (least tag : ℕ) → List ℕ → ℕ
fault least tag l = cond (is_whole l) (cond (leb least tag) (wrong tag (contents_of l)) 26) 26
