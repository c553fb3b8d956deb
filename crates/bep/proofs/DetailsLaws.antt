-- A name stops no earlier than it begins.
use Rattle.std.specs.Prelude.{Ok, Err, None}
use Rattle.std.specs.declared.option.Option.{Option}
use Prim.Native.Nat.{ℕ, zero, suc, ◌+◌}
use mathlib.Core.List.{List, [], ◌∷◌, map}
use mathlib.Core.Bool.{Bool, true, false, cond}
use native.Mathlib.Omega.{arith}
use lib.ListN.{get_or}
use Rattle.xdr.specs.Answers.{at_start}
use Rattle.record.specs.Block.{Block}
use Rattle.record.specs.File.{File}
use Rattle.table.specs.Table.{all_good, records}
use Rattle.merge.specs.Merged.{merged_of}
use Rattle.want.specs.Listing.{block_numbered}
use Rattle.want.specs.Details.{file_numbered, table_with, place_of, details_at, details_in, details_of}
use Rattle.want.specs.declared.entry.Details.{Details}
use Rattle.bep.specs.Details.{StopsAfter}

-- the same of details alone
abbrev InOrder : Option Details → Type 0
InOrder x = StopsAfter (Ok x)

of_block : (told : ℕ → Block → Option Details) → ((offset : ℕ) (b : Block) → InOrder (told offset b)) → (n offset : ℕ) (l : List Block) → InOrder (block_numbered None told n offset l)
of_block told h n offset [] = tt
of_block told h zero offset (b ∷ l) = h offset b
of_block told h (suc n) offset (b ∷ l) = of_block told h n (offset + b.size) l

of_record : (k at n : ℕ) (f : File) → InOrder (details_at k at n f)
of_record k at n f = of_block _ (λ offset b. omega arith) n 0 f.blocks

of_file : (told : File → Option Details) → ((f : File) → InOrder (told f)) → (n : ℕ) (l : List File) → InOrder (file_numbered None told n l)
of_file told h n [] = tt
of_file told h zero (f ∷ fs) = h f
of_file told h (suc n) (f ∷ fs) = of_file told h n fs

pub stops_after : (local : List ℕ) (peers : List (List ℕ)) (n block : ℕ) → StopsAfter (details_of local peers n block)
unfolding details_of
stops_after local peers n block = go (all_good (local ∷ peers))
  where
    go : (b : Bool) → StopsAfter (cond b (Ok (file_numbered None (details_in (map records (local ∷ peers)) block) n (merged_of (map records (local ∷ peers))))) (Err (at_start 15)))
    go true =
        of_file (details_in (map records (local ∷ peers)) block)
        (λ f. of_record (table_with 0 (map records (local ∷ peers)) f) (place_of 4 (get_or (map records (local ∷ peers)) (table_with 0 (map records (local ∷ peers)) f) []) f.name) block f) n
        (merged_of (map records (local ∷ peers)))
    go false = tt
