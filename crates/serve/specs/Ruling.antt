-- The ruling on an incoming Request: it is served exactly if the named Repository is ours and our own table lists that block there; otherwise
-- the reply is a Response with the same ID and no data.
use Rattle.std.specs.Prelude.{ℕ, List, [], Bool, cond, ◌&&◌, ◌≡◌, length, Ok, Err}
use Rattle.std.specs.declared.result.Result.{Result}
use Rattle.xdr.specs.declared.answer.Refusal.{Refusal}
use Rattle.xdr.specs.Filling.{Outcome, gives, refuses, in_room, filling_answer, buffer_after}
use Rattle.message.specs.Answers.{span_bytes, message_in}
use Rattle.message.specs.Kinds.{request_in}
use Rattle.message.specs.declared.kind.RequestIn.{RequestIn}
use Rattle.message.specs.Message.{message}
use Rattle.message.specs.declared.answer.Span.{Span}
use Rattle.message.specs.declared.answer.RequestSpan.{RequestSpan}
use Rattle.message.specs.declared.edition.Edition.TheVariants as E
use Rattle.message_write.specs.Writing.{writing, response_bytes}
use Rattle.order.specs.Order.{is_equal, compare_lists}
use Rattle.table.specs.Table.{is_good, records}
use Rattle.want.specs.Listing.{lists_there, block_with}
use Rattle.serve.specs.declared.ruling.Serving.{Serving}
use Rattle.serve.specs.declared.ruling.Serving.TheVariants as S

-- it names our Repository, and our table lists that block there
abbrev pub is_ours : (t repository m : List ℕ) → RequestSpan → Bool
is_ours t repository m x =
    is_equal (compare_lists (span_bytes m x.repository) repository)
    && lists_there (records t) (span_bytes m x.name) x.offset (block_with x.size (span_bytes m x.hash))

-- what is to be done: serve so many bytes of a file at an offset; or fill in the reply with no data, or refuse
pub data Ruling : Type 0 where
  serves : (name : Span) → (offset size : ℕ) → Ruling
  fills : Outcome → Ruling

-- by what was read: a Request, or a refusal (18 for another type)
abbrev pub ruling_on : (t repository m : List ℕ) → Result RequestIn Refusal → Ruling
ruling_on t repository m (Ok q) =
    cond (is_ours t repository m q.request) (serves q.request.name q.request.offset q.request.size) (fills (writing (message E.New) q.id 3 (response_bytes [])))
ruling_on t repository m (Err r) = fills (refuses r.number r.place)

-- the table is good (15) first
unfoldable pub ruling_of : (t repository m : List ℕ) → Ruling
ruling_of t repository m = cond (is_good t) (ruling_on t repository m (request_in (message_in E.New m))) (fills (refuses 15 0))

-- how many bytes of a reply were filled in, or the refusal
abbrev pub reply_answer : Result ℕ Refusal → Result Serving Refusal
reply_answer (Ok n) = Ok (S.Replied n)
reply_answer (Err r) = Err r

-- what is answered, with a buffer of so many bytes
abbrev pub serving_answer : Ruling → (room : ℕ) → Result Serving Refusal
serving_answer (serves name offset size) room = Ok (S.Served name offset size)
serving_answer (fills o) room = reply_answer (filling_answer (in_room room o))

-- what goes into the buffer: nothing where the Request is served
abbrev pub filled_by : Ruling → Outcome
filled_by (serves name offset size) = gives []
filled_by (fills o) = o

-- the promise: answer and buffer, by the ruling and the buffer that was lent
pub record Rules (u : Ruling) (out : List ℕ) (answer : Result Serving Refusal) (after : List ℕ) : Type 0 where
  pub answered : answer ≡ serving_answer u (length out)
  pub buffer : after ≡ buffer_after (in_room (length out) (filled_by u)) out
