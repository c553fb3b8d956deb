-- The message of the type that a call takes: another type is refused with 18, and a refused reading as it is.
use Rattle.std.specs.Prelude.{true, false, Ok, Err}
use Rattle.std.specs.declared.result.Result.{Result}
use Rattle.xdr.specs.Answers.{at_start}
use Rattle.xdr.specs.declared.answer.Refusal.{Refusal}
use Rattle.message.specs.declared.answer.Message.{Message}
use Rattle.message.specs.declared.answer.Message.TheVariants as M
use Rattle.message.specs.declared.kind.IndexIn.{IndexIn}
use Rattle.message.specs.declared.kind.RequestIn.{RequestIn}
use Rattle.message.specs.declared.kind.ResponseIn.{ResponseIn}

-- an Index, or an IndexUpdate (true)
abbrev pub index_in : Result Message Refusal → Result IndexIn Refusal
index_in (Ok (M.Index id x)) = Ok (record { update = false; index = x })
index_in (Ok (M.Request id x)) = Err (at_start 18)
index_in (Ok (M.Response id x)) = Err (at_start 18)
index_in (Ok (M.Ping id end)) = Err (at_start 18)
index_in (Ok (M.Pong id end)) = Err (at_start 18)
index_in (Ok (M.IndexUpdate id x)) = Ok (record { update = true; index = x })
index_in (Ok (M.Options id x)) = Err (at_start 18)
index_in (Err r) = Err r

-- a Request with its ID
abbrev pub request_in : Result Message Refusal → Result RequestIn Refusal
request_in (Ok (M.Index id x)) = Err (at_start 18)
request_in (Ok (M.Request id x)) = Ok (record { id = id; request = x })
request_in (Ok (M.Response id x)) = Err (at_start 18)
request_in (Ok (M.Ping id end)) = Err (at_start 18)
request_in (Ok (M.Pong id end)) = Err (at_start 18)
request_in (Ok (M.IndexUpdate id x)) = Err (at_start 18)
request_in (Ok (M.Options id x)) = Err (at_start 18)
request_in (Err r) = Err r

-- a Response with its ID
abbrev pub response_in : Result Message Refusal → Result ResponseIn Refusal
response_in (Ok (M.Index id x)) = Err (at_start 18)
response_in (Ok (M.Request id x)) = Err (at_start 18)
response_in (Ok (M.Response id x)) = Ok (record { id = id; response = x })
response_in (Ok (M.Ping id end)) = Err (at_start 18)
response_in (Ok (M.Pong id end)) = Err (at_start 18)
response_in (Ok (M.IndexUpdate id x)) = Err (at_start 18)
response_in (Ok (M.Options id x)) = Err (at_start 18)
response_in (Err r) = Err r
