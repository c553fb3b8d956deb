-- Which of two records of one name is the newer.
use Rattle.std.specs.Prelude.{ℕ, List, ◌∷◌, Bool, not, cond}
use Rattle.record.specs.File.{File, is_deleted, is_invalid, from_flags}
use Rattle.record.specs.Modified.{raised}
use Rattle.record.specs.declared.outline.RecordFields.{RecordFields}
use Rattle.order.specs.Order.{compare_lists, part}
use Rattle.std.specs.declared.cmp.Ordering.{Ordering}

-- 1 over 0: yes over no
abbrev pub bit : Bool → ℕ
bit b = cond b 1 0

-- what decides, in turn: Modified as a signed number (raised, so that it is a number from 0); then Version; then valid over invalid;
-- then deleted over undeleted; then the bytes from Flags to the end
abbrev pub key_of : (modified version flags : ℕ) → (bytes : List ℕ) → List ℕ
key_of modified version flags bytes = raised modified ∷ version ∷ bit (not (is_invalid flags)) ∷ bit (is_deleted flags) ∷ bytes

-- a record's key in the newest-record order
abbrev pub key : File → List ℕ
key f = key_of f.modified f.version f.flags (from_flags f)

-- Greater where the first is the newer one (document 01: the higher)
unfoldable pub compare_files : File → File → Ordering
compare_files f g = compare_lists (key f) (key g)

-- the key of a record whose fields are at places of some bytes
abbrev pub key_at : List ℕ → RecordFields → List ℕ
key_at s f = key_of f.modified f.version f.flags (part s f.rest f.past)

-- two records by their fields, each in its own bytes: Greater where the first is the newer one
unfoldable pub compare_at : List ℕ → RecordFields → List ℕ → RecordFields → Ordering
compare_at s f t g = compare_lists (key_at s f) (key_at t g)
