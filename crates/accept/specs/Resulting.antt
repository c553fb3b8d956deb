-- The records that accepting a message gives.
use Rattle.std.specs.Prelude.{ℕ, List, [], ◌∷◌, Bool, true, false, cond}
use Rattle.record.specs.File.{File}
use Rattle.order.specs.Order.{is_equal, compare_lists}
use Rattle.table.specs.Insert.{insert}

-- a name is that of one of the records
abbrev pub is_named : List ℕ → List File → Bool
is_named n [] = false
is_named n (f ∷ fs) = cond (is_equal (compare_lists n f.name)) true (is_named n fs)

-- the old records whose names the message doesn't mention
abbrev pub unmentioned : (sent old : List File) → List File
unmentioned sent [] = []
unmentioned sent (g ∷ gs) = cond (is_named g.name sent) (unmentioned sent gs) (g ∷ unmentioned sent gs)

-- of two records of one name the one that is put in stays, whichever is the newer
abbrev pub replacing : File → File → File
replacing f g = f

-- records among others by name, one after another
unfoldable pub by_name : List File → List File → List File
by_name [] l = l
by_name (f ∷ fs) l = by_name fs (insert replacing f l)

-- an Index gives the message's records and nothing else; an IndexUpdate keeps the old ones that it doesn't mention
unfoldable pub resulting : (update : Bool) → (sent old : List File) → List File
resulting update sent old = by_name sent (cond update (unmentioned sent old) [])
