-- The request list: the blocks to ask for, and whom.
use Rattle.std.specs.Prelude.{ℕ, ◌+◌, ◌<◌, ◌≡◌, ◌⊎◌, cond}
use mathlib.Core.List.{List, [], ◌∷◌, ◌++◌, map, Memᴰ}
use Rattle.xdr.specs.Format.{encode, encode_all}
use Rattle.xdr.specs.Fields.{word, hyper}
use Rattle.xdr.specs.Filling.{Outcome, gives, refuses}
use Rattle.record.specs.Block.{Block}
use Rattle.record.specs.File.{File}
use Rattle.table.specs.Table.{all_good, records}
use Rattle.merge.specs.Merged.{merged_of}
use Rattle.want.specs.Listing.{listed, is_held, lists_there}
use Rattle.want.specs.declared.list.Wanted.{Wanted}

-- the lowest-numbered of the peers, counted from k, that lists a block there; 0 where none does
abbrev pub peer_from : (k : ℕ) → List (List File) → (name : List ℕ) → (offset : ℕ) → Block → ℕ
peer_from k [] name offset b = 0
peer_from k (p ∷ ps) name offset b = cond (lists_there p name offset b) k (peer_from (k + 1) ps name offset b)

-- a block to ask for (its file's number, its own, its offset and Length, and the peer), where it is not held
abbrev pub wanted_block : (local : List File) → (peer : ℕ → Block → ℕ) → (file block offset : ℕ) → Block → List Wanted
wanted_block local peer file block offset b =
    cond (is_held local b) [] (record { file = file; block = block; offset = offset; size = b.size; peer = peer offset b } ∷ [])

-- the entries for a file's blocks, from a number and an offset on; `peer` is whom to ask for each
abbrev pub wanted_blocks : (local : List File) → (peer : ℕ → Block → ℕ) → (file block offset : ℕ) → List Block → List Wanted
wanted_blocks local peer file block offset [] = []
wanted_blocks local peer file block offset (b ∷ l) = wanted_block local peer file block offset b ++ wanted_blocks local peer file (block + 1) (offset + b.size) l

-- the entries for files, counted from a number
abbrev pub wanted_files : (local : List File) → (peers : List (List File)) → (file : ℕ) → List File → List Wanted
wanted_files local peers file [] = []
wanted_files local peers file (f ∷ fs) = wanted_blocks local (peer_from 1 peers f.name) file 0 0 (listed f) ++ wanted_files local peers (file + 1) fs

-- the request list: the entries for the highest records over all tables
unfoldable pub request_list : (local : List File) → (peers : List (List File)) → List Wanted
request_list local peers = wanted_files local peers 0 (merged_of (local ∷ peers))

-- the order: by name, which the file numbers count, then by block number
abbrev pub Earlier : Wanted → Wanted → Type 0
Earlier v w = (v.file < w.file) ⊎ ((v.file ≡ w.file) × (v.block < w.block))

-- each entry is earlier than all after it
abbrev pub Ordered : List Wanted → Type 0
Ordered [] = Unit {0}
Ordered (w ∷ ws) = ((v : Wanted) → Memᴰ v ws → Earlier w v) × Ordered ws

-- 24 bytes a block
abbrev pub wanted_bytes : Wanted → List ℕ
wanted_bytes w = encode word w.file ++ encode word w.block ++ encode hyper w.offset ++ encode word w.size ++ encode word w.peer

-- the bytes of a list, entry after entry
abbrev pub list_bytes : List Wanted → List ℕ
list_bytes l = encode_all wanted_bytes l

-- each table is good, in turn (15), and then the list
unfoldable pub request_outcome : (local : List ℕ) → (peers : List (List ℕ)) → Outcome
request_outcome local peers = cond (all_good (local ∷ peers)) (gives (list_bytes (request_list (records local) (map records peers)))) (refuses 15 0)
