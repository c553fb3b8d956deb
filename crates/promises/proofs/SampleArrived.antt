-- Fetching by five small tables, run by computation.
use Prim.Native.Nat.{ℕ}
use mathlib.Core.List.{List, [], ◌∷◌}
use mathlib.Core.Path.{◌≡◌, refl}
use lib.ListN.{replicate}
use Rattle.xdr.specs.Format.{read, encode}
use Rattle.xdr.specs.Text.{sound_up_to}
use Rattle.xdr.specs.Pad.{all_zero}
use Rattle.xdr.specs.Filling.{gives}
use Rattle.order.specs.Order.{compare_numbers, compare_lists}
use Rattle.record.specs.Block.{Block}
use Rattle.record.specs.File.{File}
use Rattle.record.specs.Name.{is_path}
use Rattle.record.specs.Rising.{is_rising_array}
use Rattle.table.specs.Newest.{compare_files}
use Rattle.table.specs.Table.{is_good, records, table_of}
use Rattle.merge.specs.Merged.{merged_of}
use Rattle.merge.specs.Answer.{merged_records, merge_outcome}
use Rattle.want.specs.Wanted.{list_bytes, request_list, request_outcome}

-- a file of a one-letter name, and a block of 5 bytes; `want_cases` runs the same
abbrev file_of : (letter modified : ℕ) → List Block → File
file_of letter modified blocks = record { name = letter ∷ []; flags = 0; modified = modified; version = 0; blocks = blocks }

abbrev block_of : (number : ℕ) → Block
block_of number = record { size = 5; hash = 0 ∷ 0 ∷ 0 ∷ number ∷ replicate 28 0 }

-- the local table has an old "a"; the first peer a newer one with a block, the second and the third "b", the fourth nothing
abbrev local : List ℕ
local = table_of (file_of 97 0 [] ∷ [])

abbrev peer1 : List ℕ
peer1 = table_of (file_of 97 1 (block_of 1 ∷ []) ∷ [])

abbrev peer2 : List ℕ
peer2 = table_of (file_of 98 1 (block_of 2 ∷ []) ∷ [])

abbrev peer4 : List ℕ
peer4 = table_of []

abbrev peers : List (List ℕ)
peers = peer1 ∷ peer2 ∷ peer2 ∷ peer4 ∷ []

-- all of it
abbrev everything : List ℕ
everything = table_of (file_of 97 1 (block_of 1 ∷ []) ∷ file_of 98 1 (block_of 2 ∷ []) ∷ [])

-- at first two blocks are asked for, of the first peer and of the second
pub sample_wanted : request_outcome local peers ≡ gives
    (list_bytes (record { file = 0; block = 0; offset = 0; size = 5; peer = 1 } ∷ record { file = 1; block = 0; offset = 0; size = 5; peer = 2 } ∷ []))
unfolding read encode sound_up_to all_zero is_path compare_numbers compare_lists compare_files is_rising_array is_good records table_of merged_of request_list request_outcome
sample_wanted = refl

-- the merges, in a tree: local with the first, the second with the third, these two, and then the fourth
pub sample_merges : (merge_outcome local peer1 ≡ gives peer1) × (merge_outcome peer2 peer2 ≡ gives peer2) × (merge_outcome peer1 peer2 ≡ gives everything) × (merge_outcome everything peer4 ≡ gives everything)
unfolding read encode sound_up_to all_zero is_path compare_numbers compare_lists compare_files is_rising_array is_good records table_of merged_of merged_records merge_outcome
sample_merges = (refl, refl, refl, refl)

-- then nothing is asked for, and merging again changes no byte
pub sample_arrived : (request_outcome everything peers ≡ gives []) × (merge_outcome everything local ≡ gives everything) × (merge_outcome peer1 everything ≡ gives everything)
unfolding read encode sound_up_to all_zero is_path compare_numbers compare_lists compare_files is_rising_array is_good records table_of merged_of merged_records merge_outcome request_list request_outcome
sample_arrived = (refl, refl, refl)
