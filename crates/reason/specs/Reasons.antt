-- Why a block isn't coming: the first of the reasons that is true, by the request list's own definitions.
use Rattle.std.specs.Prelude.{ℕ, List, [], ◌∷◌, map, cond, Some, None, Ok, Err}
use Rattle.std.specs.declared.option.Option.{Option}
use Rattle.std.specs.declared.result.Result.{Result}
use Rattle.xdr.specs.Answers.{at_start}
use Rattle.xdr.specs.declared.answer.Refusal.{Refusal}
use Rattle.order.specs.Order.{is_equal, compare_lists}
use Rattle.record.specs.File.{File, is_deleted, is_invalid}
use Rattle.table.specs.Table.{all_good, records}
use Rattle.merge.specs.Merged.{merged_of}
use Rattle.want.specs.Listing.{block_numbered}
use Rattle.want.specs.Found.{found_from}
use Rattle.want.specs.Wanted.{peer_from}
use Rattle.want.specs.declared.search.Found.{Found}
use Rattle.reason.specs.declared.reasons.Reason.{Reason}
use Rattle.reason.specs.declared.reasons.Reason.TheVariants as R

-- a block that a local record lists is held, by the first of them; another one is wanted of a peer
abbrev pub held_or : Option Found → (peer : ℕ) → Reason
held_or (Some x) peer = R.Held x.«record» x.block
held_or None peer = R.Wanted peer

-- a block of the highest record: deleted, invalid, no such block, held or wanted
abbrev pub why_record : (local : List File) → (peers : List (List File)) → (n : ℕ) → File → Reason
why_record local peers n f =
    cond (is_deleted f.flags) R.Deleted
    (cond (is_invalid f.flags) R.Invalid
    (block_numbered R.NoSuchBlock (λ offset b. held_or (found_from 0 local b) (peer_from 1 peers f.name offset b)) n 0 f.blocks))

-- the record of a name, where there is one
abbrev pub why_named : (why : File → Reason) → (name : List ℕ) → List File → Reason
why_named why name [] = R.NoSuchName
why_named why name (f ∷ fs) = cond (is_equal (compare_lists f.name name)) (why f) (why_named why name fs)

-- each table is good, in turn (15), and then the highest record of the name
unfoldable pub why_of : (local : List ℕ) → (peers : List (List ℕ)) → (name : List ℕ) → (n : ℕ) → Result Reason Refusal
why_of local peers name n =
    cond (all_good (local ∷ peers))
    (Ok (why_named (why_record (records local) (map records peers) n) name (merged_of (map records (local ∷ peers)))))
    (Err (at_start 15))
