-- Demand 2, for either edition, of what a caller hands to the writers and finds by what reading answers.
use Rattle.std.specs.Prelude.{Ok, Err}
use Rattle.std.specs.declared.result.Result.{Result}
use Rattle.xdr.specs.declared.answer.Refusal.{Refusal}
use Rattle.std.specs.Prelude.{ℕ, ◌≤◌, List, [], ◌++◌, ◌≡◌, length, take}
use Rattle.xdr.specs.Reading.{Reading, taken, refused}
use Rattle.xdr.specs.Number.{IsBytes}
use Rattle.xdr.specs.Format.{Format, read}
use Rattle.xdr.specs.Filling.{Outcome, gives, refuses, in_room}
use Rattle.record.specs.File.{files}
use Rattle.record.specs.KeyValue.{options}
use Rattle.message.specs.Limits.{files_limit, options_limit}
use Rattle.message.specs.Message.{Repository, message}
use Rattle.message.specs.Answers.{span_bytes, message_in}
use Rattle.message.specs.declared.answer.Message.{Message}
use Rattle.message.specs.declared.answer.Message.TheVariants as M
use Rattle.message.specs.declared.edition.Edition.{Edition}
use Rattle.message_write.specs.Writing.{index_bytes, request_bytes, response_bytes, writing}
use Rattle.promises.specs.Spans.{repository_at}

-- the fields of a message as the seven writers take them: an array is given encoded
pub data MessageFields (ed : Edition) : Type 0 where
  an_index : Repository ed → (files : List ℕ) → MessageFields ed
  a_request : Repository ed → (name : List ℕ) (offset size : ℕ) (hash : List ℕ) → MessageFields ed
  a_response : (contents : List ℕ) → MessageFields ed
  a_ping : MessageFields ed
  a_pong : MessageFields ed
  an_index_update : Repository ed → (files : List ℕ) → MessageFields ed
  some_options : (options : List ℕ) → MessageFields ed

-- what the writer of each kind does with a Message ID and its fields; the old edition has no Options, and their type is refused (3)
abbrev pub written_of : (ed : Edition) (id : ℕ) → MessageFields ed → Outcome
written_of ed id (an_index r f) = writing (message ed) id 1 (index_bytes ed r f)
written_of ed id (a_request r n o size h) = writing (message ed) id 2 (request_bytes ed r n o size h)
written_of ed id (a_response d) = writing (message ed) id 3 (response_bytes d)
written_of ed id a_ping = writing (message ed) id 4 []
written_of ed id a_pong = writing (message ed) id 5 []
written_of ed id (an_index_update r f) = writing (message ed) id 6 (index_bytes ed r f)
written_of ed id (some_options o) = writing (message ed) id 7 o

-- a message as a caller finds it: its ID, its fields and its end; or none
pub data Finding (ed : Edition) : Type 0 where
  finds : (id : ℕ) → MessageFields ed → (end : ℕ) → Finding ed
  finds_none : Finding ed

-- the bytes at the spans that reading answers, and its numbers
abbrev pub found_by : (ed : Edition) (s : List ℕ) → Result Message Refusal → Finding ed
found_by ed s (Ok (M.Index id x)) = finds id (an_index (repository_at ed s x.repository) (span_bytes s x.files)) x.end
found_by ed s (Ok (M.Request id x)) = finds id (a_request (repository_at ed s x.repository) (span_bytes s x.name) x.offset x.size (span_bytes s x.hash)) x.end
found_by ed s (Ok (M.Response id x)) = finds id (a_response (span_bytes s x.«data»)) x.end
found_by ed s (Ok (M.Ping id end)) = finds id a_ping end
found_by ed s (Ok (M.Pong id end)) = finds id a_pong end
found_by ed s (Ok (M.IndexUpdate id x)) = finds id (an_index_update (repository_at ed s x.repository) (span_bytes s x.files)) x.end
found_by ed s (Ok (M.Options id x)) = finds id (some_options (span_bytes s x.options)) x.end
found_by ed s (Err r) = finds_none

-- what a caller finds in bytes
abbrev pub found : (ed : Edition) → List ℕ → Finding ed
found ed s = found_by ed s (message_in ed s)

-- what is read writes back to the same bytes
abbrev pub WritesBack : (ed : Edition) → List ℕ → Type 0
WritesBack ed s = (id : ℕ) (fields : MessageFields ed) (end : ℕ) → found ed s ≡ finds id fields end → (room : ℕ) → end ≤ room → in_room room (written_of ed id fields) ≡ gives (take end s)

-- the part of some bytes that a reading took
abbrev pub part_read : {A : Type 0} → List ℕ → Reading A → List ℕ
part_read s (taken a n) = take n s
part_read s (refused k p) = []

-- the encoded array at the front of the bytes that are given for one
abbrev pub array_in : {A : Type 0} → Format A → List ℕ → List ℕ
array_in F s = part_read s (read F s)

-- the fields without the bytes behind an array
abbrev pub encoded_only : {ed : Edition} → MessageFields ed → MessageFields ed
encoded_only (an_index r f) = an_index r (array_in (files files_limit) f)
encoded_only (a_request r n o size h) = a_request r n o size h
encoded_only (a_response d) = a_response d
encoded_only a_ping = a_ping
encoded_only a_pong = a_pong
encoded_only (an_index_update r f) = an_index_update r (array_in (files files_limit) f)
encoded_only (some_options o) = some_options (array_in (options options_limit) o)

-- where an array is given, its bytes are bytes (below 256)
abbrev pub ArrayOfBytes : {ed : Edition} → MessageFields ed → Type 0
ArrayOfBytes (an_index r f) = IsBytes f
ArrayOfBytes (a_request r n o size h) = Unit {0}
ArrayOfBytes (a_response d) = Unit {0}
ArrayOfBytes a_ping = Unit {0}
ArrayOfBytes a_pong = Unit {0}
ArrayOfBytes (an_index_update r f) = IsBytes f
ArrayOfBytes (some_options o) = IsBytes o

-- what is written reads back to the same fields, whatever bytes follow it (what is written is bytes wherever the fields are and the numbers fit)
abbrev pub ReadsBack : (ed : Edition) (id : ℕ) → MessageFields ed → Type 0
ReadsBack ed id fields = (room : ℕ) (l u : List ℕ) → IsBytes (l ++ u) → in_room room (written_of ed id fields) ≡ gives l → found ed (l ++ u) ≡ finds id (encoded_only fields) (length l)

-- the same fields, and bytes behind the array
abbrev pub followed_by : {ed : Edition} → MessageFields ed → List ℕ → MessageFields ed
followed_by (an_index r f) t = an_index r (f ++ t)
followed_by (a_request r n o size h) t = a_request r n o size h
followed_by (a_response d) t = a_response d
followed_by a_ping t = a_ping
followed_by a_pong t = a_pong
followed_by (an_index_update r f) t = an_index_update r (f ++ t)
followed_by (some_options o) t = some_options (o ++ t)

-- a writer's answer does not change when bytes follow the array, unless the array was cut short (1)
abbrev pub FollowersIgnored : (ed : Edition) (id : ℕ) → MessageFields ed → Type 0
FollowersIgnored ed id fields = ((p : ℕ) → written_of ed id fields ≡ refuses 1 p → ⊥) → (t : List ℕ) (room : ℕ) → in_room room (written_of ed id (followed_by fields t)) ≡ in_room room (written_of ed id fields)
