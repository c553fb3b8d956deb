-- What accepting a message does.
use Rattle.std.specs.Prelude.{ℕ, ◌+◌, List, [], ◌∷◌, Bool, true, false, cond, length}
use Rattle.xdr.specs.Reading.{Reading, taken, refused as unread}
use Rattle.xdr.specs.Format.{read_at, encode}
use Rattle.xdr.specs.Filling.{Outcome, refuses}
use Rattle.record.specs.File.{File, file}
use Rattle.message.specs.Header.{type_of}
use Rattle.message.specs.Message.{Kind, is_index, is_request, is_response, is_ping, is_pong, is_index_update, is_options, kind_of, Body, MessageValue, message}
use Rattle.message.specs.Answers.{past}
use Rattle.message.specs.declared.edition.Edition.TheVariants as E
use Rattle.order.specs.Order.{is_equal, compare_lists}
use Rattle.table.specs.Table.{is_good, records, resulting_table}
use Rattle.accept.specs.Resulting.{is_named, resulting}

-- no record from a place on has the name of one before it: else the place of the first that has (13)
abbrev pub unrepeated : (before : List File) → (at : ℕ) → List File → Outcome → Outcome
unrepeated before at [] next = next
unrepeated before at (f ∷ fs) next =
    cond (is_named f.name before) (refuses 13 at) (unrepeated (f ∷ before) (at + length (encode file f)) fs next)

-- records of which the first stands at a place: no name stands twice (13), and the resulting table is within the limits (19)
abbrev pub of_records : (update : Bool) → (at : ℕ) → (sent old : List File) → Outcome
of_records update at sent old = unrepeated [] at sent (resulting_table (resulting update sent old))

-- the place of the first record of a message: the count of them stands after the Repository
abbrev pub first_record : (repository : List ℕ) → ℕ
first_record repository = past 4 repository + 4

-- an Index or an IndexUpdate: its Repository is the one expected (21), and then its records
abbrev pub of_index : (update : Bool) → (old expected : List ℕ) → List ℕ × List File → Outcome
of_index update old expected sent =
    cond (is_equal (compare_lists sent.0 expected)) (of_records update (first_record sent.0) sent.1 (records old)) (refuses 21 0)

-- the body of an Index or of an IndexUpdate (true), or that a message is neither
pub data IndexBody : Type 0 where
  index_with : (update : Bool) → List ℕ × List File → IndexBody
  no_index : IndexBody

-- by the kind of a message
abbrev pub index_body : (k : Kind) → Body E.New k → IndexBody
index_body is_index b = index_with false b
index_body is_request b = no_index
index_body is_response b = no_index
index_body is_ping b = no_index
index_body is_pong b = no_index
index_body is_index_update b = index_with true b
index_body is_options b = no_index

-- only an Index and an IndexUpdate are accepted (18)
abbrev pub of_body : (old expected : List ℕ) → IndexBody → Outcome
of_body old expected (index_with update sent) = of_index update old expected sent
of_body old expected no_index = refuses 18 0

-- what was read, or the refusal of the reading as it is
abbrev pub of_reading : (old expected : List ℕ) → Reading (MessageValue E.New) → Outcome
of_reading old expected (taken m next) = of_body old expected (index_body (kind_of (type_of m.0)) m.1)
of_reading old expected (unread k p) = refuses k p

-- the old table is good (15), whatever the message is, and then the message
unfoldable pub accept_outcome : (old sent expected : List ℕ) → Outcome
accept_outcome old sent expected = cond (is_good old) (of_reading old expected (read_at (message E.New) sent 0)) (refuses 15 0)
