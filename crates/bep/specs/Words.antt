-- The number that each call returns, and the words of its answer. A message's words are its end, its type, its ID and then its fields,
-- a span by its start and its length; those of a message that is refused are the place and zeros. So a record or an option that is not there
-- gives the number 1, and the place of the field that isn't.
use Rattle.std.specs.Prelude.{Ok, Err, Some, None}
use Rattle.std.specs.declared.result.Result.{Result}
use Rattle.std.specs.declared.option.Option.{Option}
use Rattle.xdr.specs.declared.answer.Refusal.{Refusal}
use Rattle.std.specs.Prelude.{ℕ, ◌-◌, List, [], ◌∷◌, replicate}
use Rattle.message.specs.declared.answer.IndexSpan.{IndexSpan}
use Rattle.message.specs.declared.answer.RequestSpan.{RequestSpan}
use Rattle.message.specs.declared.answer.ResponseSpan.{ResponseSpan}
use Rattle.message.specs.declared.answer.OptionsSpan.{OptionsSpan}
use Rattle.message.specs.declared.answer.Message.{Message}
use Rattle.message.specs.declared.answer.Message.TheVariants as M
use Rattle.record.specs.declared.outline.RecordFields.{RecordFields}
use Rattle.record.specs.declared.option_outline.OptionFields.{OptionFields}

-- Index and IndexUpdate: words 3 and 4 are the Repository, 5 and 6 the array of files, 7 their number
abbrev pub index_words : (type id : ℕ) → IndexSpan → List ℕ
index_words type id x =
    x.end ∷ type ∷ id ∷ x.repository.start ∷ x.repository.length ∷ x.files.start ∷ x.files.length ∷ x.count ∷ 0 ∷ 0 ∷ 0 ∷ []

-- Request: words 3 and 4 are the Repository, 5 and 6 the Name, 7 the Offset, 8 the Length, 9 and 10 the Hash
abbrev pub request_words : (id : ℕ) → RequestSpan → List ℕ
request_words id x =
    x.end ∷ 2 ∷ id ∷ x.repository.start ∷ x.repository.length ∷ x.name.start ∷ x.name.length ∷ x.offset ∷ x.size ∷ x.hash.start ∷ x.hash.length ∷ []

-- Response: words 3 and 4 are the Data
abbrev pub response_words : (id : ℕ) → ResponseSpan → List ℕ
response_words id x = x.end ∷ 3 ∷ id ∷ x.«data».start ∷ x.«data».length ∷ 0 ∷ 0 ∷ 0 ∷ 0 ∷ 0 ∷ 0 ∷ []

-- Ping and Pong
abbrev pub ping_words : (type id end : ℕ) → List ℕ
ping_words type id end = end ∷ type ∷ id ∷ 0 ∷ 0 ∷ 0 ∷ 0 ∷ 0 ∷ 0 ∷ 0 ∷ 0 ∷ []

-- Options: words 5 and 6 are the array of options, 7 their number
abbrev pub options_words : (id : ℕ) → OptionsSpan → List ℕ
options_words id x = x.end ∷ 7 ∷ id ∷ 0 ∷ 0 ∷ x.options.start ∷ x.options.length ∷ x.count ∷ 0 ∷ 0 ∷ 0 ∷ []

-- a message that is refused
abbrev pub place_words : ℕ → List ℕ
place_words place = place ∷ 0 ∷ 0 ∷ 0 ∷ 0 ∷ 0 ∷ 0 ∷ 0 ∷ 0 ∷ 0 ∷ 0 ∷ []

-- the words of a message
abbrev pub read_words : Result Message Refusal → List ℕ
read_words (Ok (M.Index id x)) = index_words 1 id x
read_words (Ok (M.Request id x)) = request_words id x
read_words (Ok (M.Response id x)) = response_words id x
read_words (Ok (M.Ping id end)) = ping_words 4 id end
read_words (Ok (M.Pong id end)) = ping_words 5 id end
read_words (Ok (M.IndexUpdate id x)) = index_words 6 id x
read_words (Ok (M.Options id x)) = options_words id x
read_words (Err r) = place_words r.place

-- the number that reading a message returns
abbrev pub read_number : Result Message Refusal → ℕ
read_number (Ok m) = 0
read_number (Err r) = r.number

-- a file: the place past it, its name's start and length, Flags, the 64 bits of Modified, Version, the number of its blocks and the place of the first
abbrev pub field_words : RecordFields → List ℕ
field_words f = f.past ∷ f.name ∷ (f.stop - f.name) ∷ f.flags ∷ f.modified ∷ f.version ∷ f.blocks ∷ f.first ∷ []

-- a file that is there, or the place of its field that isn't, and zeros
abbrev pub file_words : (missing : ℕ) → Option RecordFields → List ℕ
file_words missing (Some f) = field_words f
file_words missing None = missing ∷ replicate 7 0

-- 0, or 1 where the file isn't there
abbrev pub file_number : Option RecordFields → ℕ
file_number (Some f) = 0
file_number None = 1

-- an option: the place past it, the start and the length of its Key and of its Value
abbrev pub key_words : OptionFields → List ℕ
key_words f = f.past ∷ f.key ∷ f.key_length ∷ f.value ∷ f.value_length ∷ []

-- an option that is there, or the place of its field that isn't, and zeros
abbrev pub option_words : (missing : ℕ) → Option OptionFields → List ℕ
option_words missing (Some f) = key_words f
option_words missing None = missing ∷ replicate 4 0

-- 0, or 1 where the option isn't there
abbrev pub option_number : Option OptionFields → ℕ
option_number (Some f) = 0
option_number None = 1

-- a step over a table: 0 at a record and at the end, or 15
abbrev pub step_number : Result (Option RecordFields) Refusal → ℕ
step_number (Ok (Some f)) = 0
step_number (Ok None) = 0
step_number (Err r) = r.number

-- a step over a table: the words of the record there, or zeros at the end and where it is refused
abbrev pub step_words : Result (Option RecordFields) Refusal → List ℕ
step_words (Ok (Some f)) = field_words f
step_words (Ok None) = replicate 8 0
step_words (Err r) = replicate 8 0
