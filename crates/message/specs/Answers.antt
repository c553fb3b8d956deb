-- What reading a message answers: its fields, with spans into the bytes, or the refusal.
use Rattle.std.specs.Prelude.{ℕ, ◌+◌, ◌-◌, List, length, take, drop, Ok, Err}
use Rattle.std.specs.declared.result.Result.{Result}
use Rattle.xdr.specs.Reading.{Reading, taken, refused}
use Rattle.xdr.specs.Answers.{answer}
use Rattle.xdr.specs.declared.answer.Refusal.{Refusal}
use Rattle.xdr.specs.Format.{read_at}
use Rattle.xdr.specs.Pad.{padded}
use Rattle.record.specs.File.{File}
use Rattle.record.specs.KeyValue.{KeyValue}
use Rattle.message.specs.Header.{type_of, id_of}
use Rattle.message.specs.Message.{Repository, RequestBody, Kind, is_index, is_request, is_response, is_ping, is_pong, is_index_update, is_options, kind_of, Body, MessageValue, message}
use Rattle.message.specs.declared.edition.Edition.{Edition}
use Rattle.message.specs.declared.edition.Edition.TheVariants as E
use Rattle.message.specs.declared.answer.Span.{Span}
use Rattle.message.specs.declared.answer.IndexSpan.{IndexSpan}
use Rattle.message.specs.declared.answer.RequestSpan.{RequestSpan}
use Rattle.message.specs.declared.answer.ResponseSpan.{ResponseSpan}
use Rattle.message.specs.declared.answer.OptionsSpan.{OptionsSpan}
use Rattle.message.specs.declared.answer.Message.{Message}
use Rattle.message.specs.declared.answer.Message.TheVariants as M

-- so many bytes from a place on
abbrev pub span : (start count : ℕ) → Span
span start count = record { start = start; length = count }

-- the bytes at a span
abbrev pub span_bytes : List ℕ → Span → List ℕ
span_bytes s x = take x.length (drop x.start s)

-- where the field after a string at a place begins
abbrev pub past : ℕ → List ℕ → ℕ
past at l = at + 4 + padded (length l)

-- where the Repository's contents begin: behind its length word, and in the old edition where the body begins
abbrev pub repository_start : Edition → ℕ
repository_start E.Old = 4
repository_start E.New = 8

-- how many bytes it has: in the old edition none
abbrev pub repository_length : (e : Edition) → Repository e → ℕ
repository_length E.Old u = 0
repository_length E.New r = length r

-- where the field after it begins
abbrev pub past_repository : (e : Edition) → Repository e → ℕ
past_repository E.Old u = 4
past_repository E.New r = past 4 r

-- the Repository's bytes in a message
abbrev pub repository_span : (e : Edition) → Repository e → Span
repository_span e r = span (repository_start e) (repository_length e r)

-- the body of an Index or an IndexUpdate, by what it says and the place after it
abbrev pub index_span : (e : Edition) → Repository e × List File → ℕ → IndexSpan
index_span e p next =
    record {
      repository = repository_span e p.0;
      files = span (past_repository e p.0) (next - past_repository e p.0);
      count = length p.1;
      end = next;
    }

-- the body of a Request, likewise
abbrev pub request_span : (e : Edition) → RequestBody e → ℕ → RequestSpan
request_span e b next =
    record {
      repository = repository_span e b.repository;
      name = span (past_repository e b.repository + 4) (length b.name);
      offset = b.offset;
      size = b.size;
      hash = span (past (past_repository e b.repository) b.name + 16) (length b.hash);
      end = next;
    }

-- the body of a Response, likewise
abbrev pub response_span : List ℕ → ℕ → ResponseSpan
response_span l next = record { «data» = span 8 (length l); end = next }

-- the body of Options, likewise
abbrev pub options_span : List KeyValue → ℕ → OptionsSpan
options_span l next = record { options = span 4 (next - 4); count = length l; end = next }

-- what reading the body of an Index or an IndexUpdate answers
abbrev pub index_answer : (e : Edition) → Reading (Repository e × List File) → Result IndexSpan Refusal
index_answer e r = answer (index_span e) r

-- the Index with an ID and a body that was read, or the refusal
abbrev pub index_message : ℕ → Result IndexSpan Refusal → Result Message Refusal
index_message id (Ok x) = Ok (M.Index id x)
index_message id (Err r) = Err r

-- the IndexUpdate with an ID and a body that was read, or the refusal
abbrev pub update_message : ℕ → Result IndexSpan Refusal → Result Message Refusal
update_message id (Ok x) = Ok (M.IndexUpdate id x)
update_message id (Err r) = Err r

-- what reading a Request answers
abbrev pub request_answer : (e : Edition) (id : ℕ) → Reading (RequestBody e) → Result Message Refusal
request_answer e id r = answer (λ b next. M.Request id (request_span e b next)) r

-- what reading a Response answers
abbrev pub response_answer : (id : ℕ) → Reading (List ℕ) → Result Message Refusal
response_answer id r = answer (λ l next. M.Response id (response_span l next)) r

-- what reading Options answers
abbrev pub options_answer : (id : ℕ) → Reading (List KeyValue) → Result Message Refusal
options_answer id r = answer (λ l next. M.Options id (options_span l next)) r

-- a message of each kind with an ID, by the reading of its body
abbrev pub body_answer : (e : Edition) (k : Kind) (id : ℕ) → Reading (Body e k) → Result Message Refusal
body_answer e is_index id r = index_message id (index_answer e r)
body_answer e is_request id r = request_answer e id r
body_answer e is_response id r = response_answer id r
body_answer e is_ping id r = answer (λ u next. M.Ping id next) r
body_answer e is_pong id r = answer (λ u next. M.Pong id next) r
body_answer e is_index_update id r = update_message id (index_answer e r)
body_answer e is_options id r = options_answer id r

-- a message that is refused
abbrev pub refusal : (number place : ℕ) → Result Message Refusal
refusal n p = Err (record { number = n; place = p })

-- what reading a message answers
abbrev pub message_answer : (e : Edition) → Reading (MessageValue e) → Result Message Refusal
message_answer e (taken m next) = body_answer e (kind_of (type_of m.0)) (id_of m.0) (taken m.1 next)
message_answer e (refused n p) = refusal n p

-- what bytes say that are given as a message of an edition: it is read from their start
abbrev pub message_in : Edition → List ℕ → Result Message Refusal
message_in e s = message_answer e (read_at (message e) s 0)
