-- For the steps of accepting: where a record goes among records that are in order, by their places.
use Rattle.std.specs.Prelude.{ℕ, zero, suc, ◌+◌, List, get_or, Some, None}
use Rattle.std.specs.declared.option.Option.{Option}
use Rattle.record.specs.Outline.{word_at}
use Rattle.order.specs.Order.{compare_lists, part}
use Rattle.std.specs.declared.cmp.Ordering.{Ordering}
use Rattle.std.specs.declared.cmp.Ordering.TheVariants.{Less, Equal, Greater}

-- the name of the record at a place
unfoldable pub name_of : List ℕ → ℕ → List ℕ
name_of s at = part s (at + 4) (at + 4 + word_at s at)

-- behind record j, or a place further to the front; none where that record has the name
abbrev pub slot_by : Ordering → ℕ → Option ℕ → Option ℕ
slot_by Less j further = Some (suc j)
slot_by Equal j further = None
slot_by Greater j further = further

-- a name's slot among the first j places, from the back
unfoldable pub slot_of : List ℕ → List ℕ → (j : ℕ) → List ℕ → Option ℕ
slot_of s places zero name = Some 0
slot_of s places (suc j) name = slot_by (compare_lists (name_of s (get_or places j 0)) name) j (slot_of s places j name)
