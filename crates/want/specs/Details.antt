-- What a Request for a block says, by the number of its file among the names of all tables and its own: the name and the hash as places in the
-- first table that has the file's highest record.
use Rattle.std.specs.Prelude.{ℕ, zero, suc, ◌+◌, List, [], ◌∷◌, map, Bool, false, cond, ◌&&◌, ◌||◌, length, get_or, Some, None, Ok, Err}
use Rattle.std.specs.declared.option.Option.{Option}
use Rattle.std.specs.declared.result.Result.{Result}
use Rattle.xdr.specs.declared.answer.Refusal.{Refusal}
use Rattle.xdr.specs.Answers.{at_start}
use Rattle.xdr.specs.Format.{encode}
use Rattle.record.specs.File.{File, file}
use Rattle.record.specs.Outline.{fields_of, block_place}
use Rattle.order.specs.Order.{is_equal, compare_lists}
use Rattle.table.specs.Newest.{compare_files}
use Rattle.table.specs.Table.{all_good, records}
use Rattle.merge.specs.Merged.{merged_of}
use Rattle.want.specs.Listing.{block_numbered}
use Rattle.want.specs.declared.entry.Details.{Details}

-- record number n of some: what is told of it, or `none`
abbrev pub file_numbered : {A : Type 0} → (none : A) → (told : File → A) → (n : ℕ) → List File → A
file_numbered none told n [] = none
file_numbered none told zero (f ∷ fs) = told f
file_numbered none told (suc n) (f ∷ fs) = file_numbered none told n fs

-- the same record: of one name, and neither is higher
abbrev pub is_same_file : File → File → Bool
is_same_file f g = is_equal (compare_lists f.name g.name) && is_equal (compare_files f g)

-- one of some records is this one
abbrev pub has_file : List File → File → Bool
has_file [] f = false
has_file (g ∷ gs) f = is_same_file g f || has_file gs f

-- the first of some tables, counted from k, that has a record
abbrev pub table_with : (k : ℕ) → List (List File) → File → ℕ
table_with k [] f = k
table_with k (t ∷ ts) f = cond (has_file t f) k (table_with (k + 1) ts f)

-- where the record of a name stands, the first of some standing at a place
abbrev pub place_of : (at : ℕ) → List File → (name : List ℕ) → ℕ
place_of at [] name = at
place_of at (f ∷ fs) name = cond (is_equal (compare_lists f.name name)) at (place_of (at + length (encode file f)) fs name)

-- block number n of a record that stands at a place of table k: the table, the name's span in it, the block's offset and Length, and its hash's place
abbrev pub details_at : (k at n : ℕ) → File → Option Details
details_at k at n f =
    block_numbered None
    (λ offset b. Some (record {
      table = k;
      name = (fields_of at f).name;
      stop = (fields_of at f).stop;
      offset = offset;
      size = b.size;
      hash = block_place (fields_of at f).first n + 8;
    }))
    n 0 f.blocks

-- of a highest record, where it first stands
abbrev pub details_in : (ts : List (List File)) → (n : ℕ) → File → Option Details
details_in ts n f = let k = table_with 0 ts f in details_at k (place_of 4 (get_or ts k []) f.name) n f

-- each table is good, in turn (15), and then the highest record of name number `file`
unfoldable pub details_of : (local : List ℕ) → (peers : List (List ℕ)) → (file block : ℕ) → Result (Option Details) Refusal
details_of local peers file block =
    cond (all_good (local ∷ peers))
    (Ok (file_numbered None (details_in (map records (local ∷ peers)) block) file (merged_of (map records (local ∷ peers)))))
    (Err (at_start 15))
