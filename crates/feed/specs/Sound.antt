-- Sound states: runs from an opened one lead to no others, and whatever comes to a sound one its places stay within the longest message.
use Rattle.std.specs.Prelude.{ℕ, ◌+◌, ◌*◌, ◌-◌, ◌^◌, ◌≤◌, ◌<◌, ◌≡◌, Bool, true, cond, ◌&&◌, leb, ltb, eqb}
use Rattle.xdr.specs.Pad.{padded}
use Rattle.feed.specs.Rest.{limit_of}
use Rattle.feed.specs.declared.state.Cursor.{Cursor}
use Rattle.feed.specs.declared.state.Feed.{Feed}
use Rattle.feed.specs.declared.state.Goal.{Goal}
use Rattle.feed.specs.declared.state.Goal.TheVariants as G
use Rattle.feed.specs.declared.state.WordField.{WordField}
use Rattle.feed.specs.declared.state.WordField.TheVariants as F
use Rattle.feed.specs.declared.state.StringField.{StringField}
use Rattle.feed.specs.declared.state.StringField.TheVariants as L
use Rattle.feed.specs.declared.state.Gap.{Gap}
use Rattle.feed.specs.declared.state.Gap.TheVariants as P

-- no message is longer
abbrev pub longest : ℕ
longest = 22000000

-- bytes that a word and what comes after it don't exceed
abbrev pub most_word : WordField → ℕ
most_word (F.Start e) = 22000000
most_word F.FileCount = 21800000
most_word (F.Flags k) = 41500 + k * 42000
most_word (F.BlockCount d k) = 41100 + k * 42000
most_word (F.Block m k) = 40 + m * 40 + k * 42000
most_word (F.HashLength m k) = 36 + m * 40 + k * 42000
most_word F.OptionCount = 30000

-- a string or an opaque, likewise
abbrev pub most_string : StringField → ℕ
most_string L.Index = 21900000
most_string L.Request = 2000
most_string L.RequestName = 1000
most_string L.Data = 140000
most_string (L.File k) = 42000 + k * 42000
most_string (L.Key k) = 400 + k * 400
most_string (L.Value k) = 300 + k * 400

-- what comes after bytes that are passed over, likewise
abbrev pub most_gap : Gap → ℕ
most_gap P.Offset = 100
most_gap (P.Times d k) = 41200 + k * 42000
most_gap (P.Hash m k) = m * 40 + k * 42000

-- a goal, likewise
abbrev pub most : Goal → ℕ
most (G.Word f) = most_word f
most (G.String l) = most_string l
most (G.Skip n a) = n + most_gap a
most G.Ended = 0
most (G.Stopped n) = 0

-- a place from which all of that stays within the longest message: where nothing is to come, any place does
abbrev pub Bounded : Goal → ℕ → Type 0
Bounded (G.Word f) p = p + most_word f ≤ longest
Bounded (G.String l) p = p + most_string l ≤ longest
Bounded (G.Skip n a) p = p + (n + most_gap a) ≤ longest
Bounded G.Ended p = Unit {0}
Bounded (G.Stopped n) p = Unit {0}

-- a string that is not whole
pub record Inside (l : StringField) (st : Cursor) : Type 0 where
  pub four : st.have ≡ 4
  pub limited : st.value ≤ limit_of l
  pub parts : st.at + st.todo ≡ st.value
  pub within : st.todo + st.pad ≤ padded st.value
  pub missing : 1 ≤ st.todo + st.pad
  pub padding : st.zeros + st.pad ≤ 3

-- what a state has to be at each goal
abbrev pub Fits : Goal → Cursor → Type 0
Fits (G.Word f) st = (st.have ≤ 3) × (st.value < 256 ^ st.have)
Fits (G.String l) st = (st.have ≤ 3 → st.value < 256 ^ st.have) × (3 < st.have → Inside l st)
Fits (G.Skip n a) st = (st.have ≡ 0) × (1 ≤ n)
Fits G.Ended st = st.have ≡ 0
Fits (G.Stopped n) st = (st.have ≡ 0) × (2 ≤ n)

-- where the reading stands after runs
pub record Sound (st : Cursor) : Type 0 where
  pub bounded : Bounded st.goal st.place
  pub fits : Fits st.goal st

-- how many bytes have come
unfoldable pub reached : Cursor → ℕ
reached st = cond (leb st.have 3) (st.place + st.have) (st.place + (4 + padded st.value - (st.todo + st.pad)))

-- the same as tests: so many bytes from a place on stay within the longest message
abbrev pub room_for : (place most : ℕ) → Bool
room_for p m = leb p longest && leb (p + m) longest

-- a place from which all stays within it
abbrev pub bounded_test : Goal → ℕ → Bool
bounded_test (G.Word f) p = room_for p (most_word f)
bounded_test (G.String l) p = room_for p (most_string l)
bounded_test (G.Skip n a) p = room_for p (n + most_gap a)
bounded_test G.Ended p = true
bounded_test (G.Stopped n) p = true

-- a number of so many bytes, three at most
abbrev pub word_test : (have value : ℕ) → Bool
word_test c v = leb c 3 && ltb v (256 ^ c)

-- numbers of a string that is not whole
abbrev pub parts_test : StringField → (have value at todo pad zeros : ℕ) → Bool
parts_test l c n i m z zeros = eqb c 4 && (leb n (limit_of l) && (eqb (i + m) n && (leb (m + z) (padded n) && (leb 1 (m + z) && leb (zeros + z) 3))))

-- a string that is not whole
abbrev pub inside_test : StringField → Cursor → Bool
inside_test l st = parts_test l st.have st.value st.at st.todo st.pad st.zeros

-- what a state has to be at each goal
abbrev pub fits_test : Goal → Cursor → Bool
fits_test (G.Word f) st = word_test st.have st.value
fits_test (G.String l) st = cond (leb st.have 3) (word_test st.have st.value) (inside_test l st)
fits_test (G.Skip n a) st = eqb st.have 0 && leb 1 n
fits_test G.Ended st = eqb st.have 0
fits_test (G.Stopped n) st = eqb st.have 0 && leb 2 n

-- where the reading stands after runs
unfoldable pub is_sound_cursor : Cursor → Bool
is_sound_cursor st = bounded_test st.goal st.place && fits_test st.goal st

-- four first bytes, or fewer with their number
abbrev pub front_test : (have value : ℕ) → Bool
front_test c v = cond (eqb c 4) true (word_test c v)

-- a sound state, with its first bytes
abbrev pub is_sound : Feed → Bool
is_sound st = is_sound_cursor st.cursor && front_test st.front.have st.front.value
