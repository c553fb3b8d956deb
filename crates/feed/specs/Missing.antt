-- How many bytes are surely still missing.
use Rattle.std.specs.Prelude.{ℕ, ◌+◌, ◌-◌, cond, leb}
use Rattle.feed.specs.declared.state.Cursor.{Cursor}
use Rattle.feed.specs.declared.state.Goal.{Goal}
use Rattle.feed.specs.declared.state.Goal.TheVariants as G

-- the bytes that are missing of the field at hand
abbrev pub missing_of : Goal → Cursor → ℕ
missing_of (G.Word f) st = 4 - st.have
missing_of (G.String l) st = cond (leb st.have 3) (4 - st.have) (st.todo + st.pad)
missing_of (G.Skip n a) st = n
missing_of G.Ended st = 0
missing_of (G.Stopped n) st = 0

-- of the field where the reading stands
unfoldable pub missing_in : Cursor → ℕ
missing_in st = missing_of st.goal st
