-- Where a table first lists a block: by record, then by block, both counted from 0.
use Rattle.std.specs.Prelude.{ℕ, ◌+◌, List, [], ◌∷◌, cond, Some, None, Ok, Err}
use Rattle.std.specs.declared.option.Option.{Option}
use Rattle.std.specs.declared.result.Result.{Result}
use Rattle.xdr.specs.declared.answer.Refusal.{Refusal}
use Rattle.xdr.specs.Answers.{at_start}
use Rattle.record.specs.Block.{Block}
use Rattle.record.specs.File.{File}
use Rattle.table.specs.Table.{is_good, records}
use Rattle.want.specs.Listing.{is_same, listed}
use Rattle.want.specs.declared.search.Found.{Found}

-- block j of record n
abbrev pub block_at : (n j : ℕ) → Found
block_at n j = record { «record» = n; block = j }

-- the first such block of record n, counted from j; else `other`
abbrev pub found_among : (n j : ℕ) → List Block → Block → (other : Option Found) → Option Found
found_among n j [] b other = other
found_among n j (c ∷ l) b other = cond (is_same c b) (Some (block_at n j)) (found_among n (j + 1) l b other)

-- the search through records counted from n
abbrev pub found_from : (n : ℕ) → List File → Block → Option Found
found_from n [] b = None
found_from n (f ∷ fs) b = found_among n 0 (listed f) b (found_from (n + 1) fs b)

-- the search in a table (15)
unfoldable pub found_in : List ℕ → Block → Result (Option Found) Refusal
found_in t b = cond (is_good t) (Ok (found_from 0 (records t) b)) (Err (at_start 15))
