-- Requests that are outstanding, the oldest first.
use Rattle.std.specs.Prelude.{ℕ, ◌+◌, List, [], ◌∷◌, Bool, true, cond, ◌&&◌, ltb, leb, eqb}
use Rattle.record.specs.Block.{is_size}
use Rattle.message.specs.Limits.{id_limit}
use Rattle.link.specs.declared.request.Request.{Request}

-- what an entry holds that no request is in
abbrev pub blank : Request
blank = record { id = 0; size = 0 }

-- the ID after another: 0 follows 4095
abbrev pub after : ℕ → ℕ
after id = cond (ltb id id_limit) (id + 1) 0

-- the sum of the Lengths
abbrev pub total : List Request → ℕ
total [] = 0
total (r ∷ rs) = r.size + total rs

-- the ID of the first, or else the next ID
abbrev pub first_id : List Request → (next : ℕ) → ℕ
first_id [] next = next
first_id (r ∷ rs) next = r.id

-- a request stands before one with the ID `next`: its own ID is 0 to 4095, with that ID after it, and its Length 1 to 131,072
abbrev pub stands_before : Request → (next : ℕ) → Bool
stands_before r next = leb r.id id_limit && (eqb (after r.id) next && is_size r.size)

-- IDs rising by one up to the next ID, all from 0 to 4095, and Lengths each within 1 to 131,072
abbrev pub is_consecutive : List Request → (next : ℕ) → Bool
is_consecutive [] next = true
is_consecutive (r ∷ rs) next = stands_before r (first_id rs next) && is_consecutive rs next
