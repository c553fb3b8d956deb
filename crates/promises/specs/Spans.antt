-- What reading a message answers, by its fields: the bytes at each span are the field that was read.
use Rattle.std.specs.Prelude.{Ok}
use Rattle.std.specs.declared.result.Result.{Result}
use Rattle.xdr.specs.declared.answer.Refusal.{Refusal}
use Rattle.std.specs.Prelude.{ℕ, List, ◌≡◌, length}
use Rattle.xdr.specs.Format.{encode}
use Rattle.record.specs.File.{files}
use Rattle.record.specs.KeyValue.{KeyValue, options}
use Rattle.message.specs.Limits.{files_limit, options_limit}
use Rattle.message.specs.Message.{Repository, Kind, is_index, is_request, is_response, is_ping, is_pong, is_index_update, is_options, Body}
use Rattle.message.specs.declared.answer.Span.{Span}
use Rattle.message.specs.declared.answer.IndexSpan.{IndexSpan}
use Rattle.message.specs.declared.answer.RequestSpan.{RequestSpan}
use Rattle.message.specs.declared.answer.ResponseSpan.{ResponseSpan}
use Rattle.message.specs.declared.answer.OptionsSpan.{OptionsSpan}
use Rattle.message.specs.declared.answer.Message.{Message}
use Rattle.message.specs.declared.answer.Message.TheVariants as M
use Rattle.message.specs.Answers.{span_bytes}
use Rattle.message.specs.declared.edition.Edition.{Edition}
use Rattle.message.specs.declared.edition.Edition.TheVariants as E

-- the Repository at a span: in the old edition none
abbrev pub repository_at : (ed : Edition) → List ℕ → Span → Repository ed
repository_at E.Old s x = tt
repository_at E.New s x = span_bytes s x

-- an Index or an IndexUpdate: its Repository, and its files, which are an encoded array from the count word to the end
pub record IndexFields (ed : Edition) (s : List ℕ) (x : IndexSpan) (b : Body ed is_index) (end : ℕ) : Type 0 where
  pub repository_is : repository_at ed s x.repository ≡ b.0
  pub files_are : span_bytes s x.files ≡ encode (files files_limit) b.1
  pub count_is : x.count ≡ length b.1
  pub end_is : x.end ≡ end

-- a Request: its strings and its hash at their spans, and its numbers
pub record RequestFields (ed : Edition) (s : List ℕ) (x : RequestSpan) (b : Body ed is_request) (end : ℕ) : Type 0 where
  pub repository_is : repository_at ed s x.repository ≡ b.repository
  pub name_is : span_bytes s x.name ≡ b.name
  pub offset_is : x.offset ≡ b.offset
  pub size_is : x.size ≡ b.size
  pub hash_is : span_bytes s x.hash ≡ b.hash
  pub end_is : x.end ≡ end

-- a Response: its data
pub record ResponseFields (s : List ℕ) (x : ResponseSpan) (b : List ℕ) (end : ℕ) : Type 0 where
  pub data_is : span_bytes s x.«data» ≡ b
  pub end_is : x.end ≡ end

-- Options: an encoded array from the count word to the end
pub record OptionsFields (s : List ℕ) (x : OptionsSpan) (b : List KeyValue) (end : ℕ) : Type 0 where
  pub options_are : span_bytes s x.options ≡ encode (options options_limit) b
  pub count_is : x.count ≡ length b
  pub end_is : x.end ≡ end

-- the answer for a message of each kind with an ID, by what its body says and the place after it
abbrev pub SaysFields : (ed : Edition) (s : List ℕ) (id : ℕ) (k : Kind) → Body ed k → (end : ℕ) → Result Message Refusal → Type 0
SaysFields ed s id is_index b end a = (x : IndexSpan) × (a ≡ Ok (M.Index id x)) × IndexFields ed s x b end
SaysFields ed s id is_request b end a = (x : RequestSpan) × (a ≡ Ok (M.Request id x)) × RequestFields ed s x b end
SaysFields ed s id is_response b end a = (x : ResponseSpan) × (a ≡ Ok (M.Response id x)) × ResponseFields s x b end
SaysFields ed s id is_ping b end a = a ≡ Ok (M.Ping id end)
SaysFields ed s id is_pong b end a = a ≡ Ok (M.Pong id end)
SaysFields ed s id is_index_update b end a = (x : IndexSpan) × (a ≡ Ok (M.IndexUpdate id x)) × IndexFields ed s x b end
SaysFields ed s id is_options b end a = (x : OptionsSpan) × (a ≡ Ok (M.Options id x)) × OptionsFields s x b end
