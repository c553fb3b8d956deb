-- For the steps from an entry to what a Request says: the details by the fields of a record, and what a walk to a name's number answers.
use Rattle.std.specs.Prelude.{ℕ, ◌<◌, List, map, ◌≡◌, cond, leb, Some, None}
use Rattle.std.specs.declared.option.Option.{Option}
use Rattle.record.specs.Outline.{block_of, offset_of}
use Rattle.record.specs.declared.outline.RecordFields.{RecordFields}
use Rattle.record.specs.declared.outline.BlockFields.{BlockFields}
use Rattle.table.specs.Table.{records}
use Rattle.merge.specs.Merged.{merged_of}
use Rattle.want.specs.Details.{file_numbered, details_in}
use Rattle.want.specs.Steps.Places.{table_at}
use Rattle.want.specs.declared.entry.Details.{Details}

-- by the outline of the block and its offset
abbrev pub details_block : (k : ℕ) → RecordFields → (offset : ℕ) → Option BlockFields → Option Details
details_block k f offset (Some b) = Some (record { table = k; name = f.name; stop = f.stop; offset = offset; size = b.size; hash = b.hash })
details_block k f offset None = None

-- block number n of the record with these fields, which is in table k
abbrev pub details_by : (t : List ℕ) → (k n : ℕ) → RecordFields → Option Details
details_by t k n f = cond (leb f.blocks n) None (details_block k f (offset_of t f.first n) (block_of t f.first n))

-- the same of a record of a table, where there is one
abbrev pub details_from : (ts : List (List ℕ)) → (n : ℕ) → Option (ℕ × RecordFields) → Option Details
details_from ts n None = None
details_from ts n (Some (k, f)) = details_by (table_at ts k) k n f

-- the record of table k with these fields is the highest of name number `file`: all that is told of its blocks goes by it
pub record Numbered (ts : List (List ℕ)) (file : ℕ) (x : Option (ℕ × RecordFields)) : Type 0 where
  pub small : (k : ℕ) → (f : RecordFields) → x ≡ Some (k, f) → k < 5
  pub told : (n : ℕ) → details_from ts n x ≡ file_numbered None (details_in (map records ts) n) file (merged_of (map records ts))
