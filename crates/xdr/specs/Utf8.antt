-- What UTF-8 is (RFC 3629, section 3): the bytes of a code point, by its bits.
use Rattle.std.specs.Prelude.{ℕ, ◌+◌, ◌/◌, ◌%◌, List, [], ◌∷◌, ◌++◌, ◌≡◌, Bool, true, cond, ◌&&◌, ◌||◌, leb}

-- a code point that is a character's: 0 to D7FF and E000 to 10FFFF
abbrev pub is_point : ℕ → Bool
is_point c = leb c 55295 || (leb 57344 c && leb c 1114111)

-- a follower, which has the lowest six bits
abbrev pub six_bits : ℕ → ℕ
six_bits n = 128 + n % 64

-- up to 7 bits are one byte, up to 11 two, up to 16 three, more four
abbrev pub point_bytes : ℕ → List ℕ
point_bytes c =
    cond (leb c 127) (c ∷ [])
    (cond (leb c 2047) ((192 + c / 64) ∷ six_bits c ∷ [])
    (cond (leb c 65535) ((224 + c / 4096) ∷ six_bits (c / 64) ∷ six_bits c ∷ [])
    ((240 + c / 262144) ∷ six_bits (c / 4096) ∷ six_bits (c / 64) ∷ six_bits c ∷ [])))

-- the bytes of code points, one after another
abbrev pub utf8 : List ℕ → List ℕ
utf8 [] = []
utf8 (c ∷ cs) = point_bytes c ++ utf8 cs

-- all of them are characters'
abbrev pub are_points : List ℕ → Bool
are_points [] = true
are_points (c ∷ cs) = is_point c && are_points cs

-- bytes that are the UTF-8 of some code points
pub record IsUtf8 (l : List ℕ) : Type 0 where
  pub points : List ℕ
  pub are : are_points points ≡ true
  pub is : l ≡ utf8 points
