-- From an entry of the request list to what a Request says: the name and the hash stand where the details point.
use Rattle.std.specs.Prelude.{Ok, Err, Some}
use Rattle.std.specs.declared.result.Result.{Result}
use Rattle.std.specs.declared.option.Option.{Option}
use Rattle.xdr.specs.declared.answer.Refusal.{Refusal}
use Rattle.std.specs.Prelude.{ℕ, ◌+◌, ◌<◌, ◌≡◌, true, false, get_or}
use mathlib.Core.List.{List, [], ◌∷◌, map, Memᴰ}
use Rattle.xdr.specs.Answers.{at_start}
use Rattle.order.specs.Order.{part}
use Rattle.record.specs.Block.{Block}
use Rattle.record.specs.File.{File}
use Rattle.table.specs.Table.{all_good, records}
use Rattle.want.specs.Details.{details_of}
use Rattle.want.specs.declared.list.Wanted.{Wanted}
use Rattle.want.specs.declared.entry.Details.{Details}
use Rattle.promises.specs.RequestList.{Missing, Asks, ExactList}

-- what a Request for a block of a file says: its offset and Length, and in one of the tables the file's name and the block's hash
pub record Said (ts : List (List ℕ)) (f : File) (b : Block) (offset size : ℕ) (d : Result (Option Details) Refusal) : Type 0 where
  pub table : ℕ
  pub name : ℕ
  pub stop : ℕ
  pub hash : ℕ
  pub is : d ≡ Ok (Some (record { table = table; name = name; stop = stop; offset = offset; size = size; hash = hash }))
  pub small : table < 5
  pub name_is : part (get_or ts table []) name stop ≡ f.name
  pub hash_is : part (get_or ts table []) hash (hash + 32) ≡ b.hash

-- an entry is for a missing block, and by its two numbers the details say the rest
pub record Followed {local : List ℕ} {peers : List (List ℕ)} (x : ExactList local peers) (w : Wanted) : Type 0 where
  pub missing : Missing x.highs (records local)
  pub asks : Asks (map records peers) missing w
  pub said : Said (local ∷ peers) missing.highest missing.block w.offset w.size (details_of local peers w.file w.block)

-- 15 where a table is not good, else so for each entry of the list
pub record Detailed (local : List ℕ) (peers : List (List ℕ)) : Type 0 where
  pub refused : all_good (local ∷ peers) ≡ false → (file block : ℕ) → details_of local peers file block ≡ Err (at_start 15)
  pub given : all_good (local ∷ peers) ≡ true → (x : ExactList local peers) × ((w : Wanted) → Memᴰ w x.list → Followed x w)
