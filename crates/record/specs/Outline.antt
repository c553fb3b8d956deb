-- The fixed fields of a record, and its blocks by number: what stands at places that the lengths alone give.
use Rattle.std.specs.Prelude.{ℕ, zero, suc, ◌+◌, ◌*◌, cond, List, length, drop, nat_le, Some, None}
use Rattle.std.specs.declared.option.Option.{Option}
use Rattle.xdr.specs.Number.{big_endian}
use Rattle.xdr.specs.Pad.{padded}
use Rattle.record.specs.Limits.{block_bytes}
use Rattle.record.specs.File.{File}
use Rattle.record.specs.declared.outline.RecordFields.{RecordFields}
use Rattle.record.specs.declared.outline.BlockFields.{BlockFields}

-- the word at a place
unfoldable pub word_at : List ℕ → ℕ → ℕ
word_at s at = big_endian 4 (drop at s)

-- the number of 64 bits at a place: two words, the higher first
unfoldable pub hyper_at : List ℕ → ℕ → ℕ
hyper_at s at = word_at s at * 4294967296 + word_at s (at + 4)

-- where a string at a place ends, its pad included
abbrev pub past_string : List ℕ → ℕ → ℕ
past_string s at = at + 4 + padded (word_at s at)

-- the bytes of so many blocks
abbrev pub blocks_size : ℕ → ℕ
blocks_size n = n * block_bytes

-- the fields of a record whose name goes from one place to another, and whose Flags stand at a third
abbrev pub fields_from : List ℕ → (name stop rest : ℕ) → RecordFields
fields_from s name stop rest =
    record {
      name = name;
      stop = stop;
      rest = rest;
      flags = word_at s rest;
      modified = hyper_at s (rest + 4);
      version = word_at s (rest + 12);
      blocks = word_at s (rest + 16);
      first = rest + 20;
      past = rest + 20 + blocks_size (word_at s (rest + 16));
    }

-- fields that end within the bytes
abbrev pub outlined : List ℕ → RecordFields → Option RecordFields
outlined s f = cond (nat_le f.past (length s)) (Some f) None

-- the record whose name goes from one place to another, and whose Flags stand at a third
unfoldable pub outline_from : List ℕ → (name stop rest : ℕ) → Option RecordFields
outline_from s name stop rest = outlined s (fields_from s name stop rest)

-- the record at a place
unfoldable pub outline_of : List ℕ → ℕ → Option RecordFields
outline_of s at = outline_from s (at + 4) (at + 4 + word_at s at) (past_string s at)

-- a file's fields and their places, where it begins at a place
abbrev pub fields_of : ℕ → File → RecordFields
fields_of at f =
    record {
      name = at + 4;
      stop = at + 4 + length f.name;
      rest = at + 4 + padded (length f.name);
      flags = f.flags;
      modified = f.modified;
      version = f.version;
      blocks = length f.blocks;
      first = at + 4 + padded (length f.name) + 20;
      past = at + 4 + padded (length f.name) + 20 + blocks_size (length f.blocks);
    }

-- where block i begins, the first being at a place
abbrev pub block_place : ℕ → ℕ → ℕ
block_place first i = first + blocks_size i

-- the Length of block i and the place of its hash
unfoldable pub block_of : List ℕ → (first i : ℕ) → Option BlockFields
block_of s first i = cond (nat_le (block_place first i + block_bytes) (length s)) (Some (record { size = word_at s (block_place first i); hash = block_place first i + 8 })) None

-- the Length of a block, or 0 where it isn't there
abbrev pub size_of : Option BlockFields → ℕ
size_of (Some b) = b.size
size_of None = 0

-- the offset of block i: the sum of the Lengths before it
abbrev pub offset_of : List ℕ → (first i : ℕ) → ℕ
offset_of s first zero = 0
offset_of s first (suc i) = offset_of s first i + size_of (block_of s first i)
