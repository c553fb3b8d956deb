-- Moves over the front of a run.
use Rattle.std.specs.Prelude.{ℕ, ◌+◌, ◌≤◌, List, ◌++◌, ◌≡◌, true, length, drop}
use Rattle.xdr.specs.Reading.{taken}
use Rattle.xdr.specs.Format.{Format, read}
use Rattle.xdr.specs.Fields.{opaque, text}
use Rattle.record.specs.Limits.{key_limit, value_limit}
use Rattle.record.specs.File.{name}
use Rattle.message.specs.Limits.{repository_limit, data_limit}
use Rattle.feed.specs.Rest.{rest}
use Rattle.feed.specs.Sound.{Sound, reached}
use Rattle.feed.specs.Steps.Next.{wants}
use Rattle.feed.specs.declared.state.Cursor.{Cursor}
use Rattle.feed.specs.declared.state.Moved.{Moved}
use Rattle.feed.specs.declared.state.Goal.{Goal}
use Rattle.feed.specs.declared.state.Goal.TheVariants as G
use Rattle.feed.specs.declared.state.StringField.{StringField}
use Rattle.feed.specs.declared.state.StringField.TheVariants as L

-- so many have come, or it was refused
abbrev pub ReachedAt : Goal → Cursor → ℕ → Type 0
ReachedAt (G.Word f) st n = reached st ≡ n
ReachedAt (G.String l) st n = reached st ≡ n
ReachedAt (G.Skip k a) st n = reached st ≡ n
ReachedAt G.Ended st n = reached st ≡ n
ReachedAt (G.Stopped k) st n = Unit {0}

-- a sound state, and so many bytes have come where it isn't refused
pub record Comes (st : Cursor) (n : ℕ) : Type 0 where
  pub sound : Sound st
  pub arrived : ReachedAt st.goal st n

-- a move from a state over the front of some bytes
pub record Moves (st : Cursor) (part : List ℕ) (r : Moved) : Type 0 where
  pub on : (t : List ℕ) → rest st (part ++ t) ≡ rest r.state (drop r.taken part ++ t)
  pub comes : Comes r.state (reached st + r.taken)
  pub some : 1 ≤ r.taken
  pub within : r.taken ≤ length part

-- as far as the bytes go, or the message
pub record Through (st : Cursor) (run : List ℕ) (r : Moved) : Type 0 where
  pub on : (t : List ℕ) → rest st (run ++ t) ≡ rest r.state (drop r.taken run ++ t)
  pub comes : Comes r.state (reached st + r.taken)
  pub within : r.taken ≤ length run
  pub whole : wants r.state.goal ≡ true → r.taken ≡ length run

-- how many bytes of a run of so many were taken by a state that stopped after i of them
abbrev pub taken_by : Goal → (i size : ℕ) → ℕ
taken_by (G.Word f) i size = i
taken_by (G.String l) i size = i
taken_by (G.Skip n a) i size = i
taken_by G.Ended i size = i
taken_by (G.Stopped n) i size = size

-- a value of a format at the front of some bytes takes so many of them
pub record WholeAt {A : Type 0} (F : Format A) (s : List ℕ) (n : ℕ) : Type 0 where
  pub value : A
  pub is : read F s ≡ taken value n

-- the format of each string
abbrev pub string_format : StringField → Format (List ℕ)
string_format L.Index = text repository_limit
string_format L.Request = text repository_limit
string_format L.RequestName = name
string_format L.Data = opaque data_limit
string_format (L.File k) = name
string_format (L.Key k) = text key_limit
string_format (L.Value k) = text value_limit
