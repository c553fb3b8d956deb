-- What the readers of records answer, by what was read.
use Rattle.std.specs.Prelude.{ℕ, ◌+◌, List, length}
use Rattle.std.specs.declared.result.Result.{Result}
use Rattle.xdr.specs.Reading.{Reading}
use Rattle.xdr.specs.Pad.{padded}
use Rattle.xdr.specs.Answers.{answer}
use Rattle.xdr.specs.declared.answer.Refusal.{Refusal}
use Rattle.record.specs.Block.{Block}
use Rattle.record.specs.File.{File}
use Rattle.record.specs.KeyValue.{KeyValue}
use Rattle.record.specs.Outline.{fields_of}
use Rattle.record.specs.declared.file.FileSpan.{FileSpan}
use Rattle.record.specs.declared.option.OptionSpan.{OptionSpan}

-- an array: the number of its elements and the place after the last
abbrev pub array_answer : {A : Type 0} → Reading (List A) → Result (ℕ × ℕ) Refusal
array_answer r = answer (λ l next. (length l, next)) r

-- a block: its Length and the place after it, where its hash ends
abbrev pub block_answer : Reading Block → Result (ℕ × ℕ) Refusal
block_answer r = answer (λ b next. (b.size, next)) r

-- a file at the front of a part: its fields, of the name and the blocks how many there are, the place of the first block and the place after
-- the file
abbrev pub file_span : File → ℕ → FileSpan
file_span f next = record {
  name_length = length f.name;
  flags = f.flags;
  modified = f.modified;
  version = f.version;
  blocks = length f.blocks;
  first = (fields_of 0 f).first;
  next = next;
}

abbrev pub file_answer : Reading File → Result FileSpan Refusal
file_answer r = answer file_span r

-- an option at the front of a part: the lengths of its Key and of its Value, the place where the Value's bytes start and the place after the option
abbrev pub option_span : KeyValue → ℕ → OptionSpan
option_span o next = record { key_length = length o.key; value_start = padded (length o.key) + 8; value_length = length o.value; next = next }

abbrev pub option_answer : Reading KeyValue → Result OptionSpan Refusal
option_answer r = answer option_span r
