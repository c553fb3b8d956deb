-- A list of merges that is run by computation, so that the claim is about something.
use Prim.Native.Nat.{ℕ}
use mathlib.Core.List.Memᴰ
use mathlib.Core.List.{List, [], ◌∷◌}
use mathlib.Core.Path.{◌≡◌, refl}
use mathlib.Core.Bool.{true, false}
use native.Mathlib.Omega.{arith}
use lib.ListN.{take}
use Rattle.xdr.specs.Format.{read, encode}
use Rattle.xdr.specs.Text.{sound_up_to}
use Rattle.xdr.specs.Pad.{all_zero}
use Rattle.order.specs.Order.{compare_numbers, compare_lists}
use Rattle.record.specs.Name.{is_path}
use Rattle.record.specs.Rising.{is_rising_array}
use Rattle.table.specs.Newest.{compare_files}
use Rattle.table.specs.Table.{is_good, records, table_of}
use Rattle.xdr.specs.Filling.{gives, refuses, in_room}
use Rattle.merge.specs.Merged.{merged_of}
use Rattle.merge.specs.Answer.{merged_records, merge_outcome}
use Rattle.promises.specs.Memory.{Memory, bytes_in, written}
use Rattle.promises.specs.Merges.{Slice, State, Action, call, write, start, merging, run, AllAllowed, Throughout}
use Rattle.promises.proofs.MemoryLaws.{holds_written}
use Rattle.promises.proofs.Merges.{list_of_merges}

-- two tables of one record, named "a": Modified -1 and Version 9, Modified 0 and Version 0
abbrev older : List ℕ
older = 0 ∷ 0 ∷ 0 ∷ 1 ∷ 0 ∷ 0 ∷ 0 ∷ 1 ∷ 97 ∷ 0 ∷ 0 ∷ 0 ∷ 0 ∷ 0 ∷ 0 ∷ 0 ∷ 255 ∷ 255 ∷ 255 ∷ 255 ∷ 255 ∷ 255 ∷ 255 ∷ 255 ∷ 0 ∷ 0 ∷ 0 ∷ 9 ∷ 0 ∷ 0 ∷ 0 ∷ 0 ∷ []

abbrev newer : List ℕ
newer = 0 ∷ 0 ∷ 0 ∷ 1 ∷ 0 ∷ 0 ∷ 0 ∷ 1 ∷ 97 ∷ 0 ∷ 0 ∷ 0 ∷ 0 ∷ 0 ∷ 0 ∷ 0 ∷ 0 ∷ 0 ∷ 0 ∷ 0 ∷ 0 ∷ 0 ∷ 0 ∷ 0 ∷ 0 ∷ 0 ∷ 0 ∷ 0 ∷ 0 ∷ 0 ∷ 0 ∷ 0 ∷ []

-- they lie at 0 and at 40, and a slice of three bytes, which is no table, at 80
abbrev memory : Memory
memory = written (written (λ k. 0) 0 older) 40 newer

abbrev begin : State
begin = start memory (record { at = 0; size = 32 } ∷ record { at = 40; size = 32 } ∷ record { at = 80; size = 3 } ∷ [])

abbrev x : Slice
x = record { region = record { at = 0; size = 32 }; is_result = false; origins = older ∷ [] }

abbrev y : Slice
y = record { region = record { at = 40; size = 32 }; is_result = false; origins = newer ∷ [] }

abbrev z : Slice
z = record { region = record { at = 80; size = 3 }; is_result = false; origins = (0 ∷ 0 ∷ 0 ∷ []) ∷ [] }

abbrev merged : Slice
merged = record { region = record { at = 100; size = 32 }; is_result = true; origins = older ∷ newer ∷ [] }

-- the two are merged; their result with itself, into a buffer one byte short; one with what is no table; and somebody writes into the first
abbrev actions : List Action
actions =
    call x y (record { at = 100; size = 34 })
    ∷ call merged merged (record { at = 140; size = 31 })
    ∷ call y z (record { at = 140; size = 32 })
    ∷ write 31 (7 ∷ [])
    ∷ []

-- what each call did
pub sample_answers : (in_room 34 (merging begin.memory x y) ≡ gives newer)
    × (in_room 31 (merging (run begin (take 1 actions)).memory merged merged) ≡ refuses 14 0)
    × (in_room 32 (merging (run begin (take 2 actions)).memory y z) ≡ refuses 15 0)
unfolding read encode sound_up_to all_zero is_path compare_numbers compare_lists compare_files is_rising_array is_good records table_of merged_of merged_records merge_outcome
sample_answers = (refl, refl, refl)

-- the first is no slice any more, and the result is the newer one
pub sample_run : ((run begin actions).slices ≡ merged ∷ y ∷ z ∷ []) × (bytes_in (run begin actions).memory merged.region ≡ newer)
unfolding read encode sound_up_to all_zero is_path compare_numbers compare_lists compare_files is_rising_array is_good records table_of merged_of merged_records merge_outcome
sample_run = (refl, refl)

-- it is a list that the claim is about
sample_allowed : AllAllowed begin actions
unfolding read encode sound_up_to all_zero is_path compare_numbers compare_lists compare_files is_rising_array is_good records table_of merged_of merged_records merge_outcome
sample_allowed = (
  (Memᴰ.head refl, Memᴰ.tail (Memᴰ.head refl), refl, refl),
  ((Memᴰ.head refl, Memᴰ.head refl, refl, refl), ((Memᴰ.tail (Memᴰ.tail (Memᴰ.head refl)), Memᴰ.tail (Memᴰ.tail (Memᴰ.tail (Memᴰ.head refl))), refl, refl), (tt, tt))),
)

pub sample_kept : Throughout begin actions
sample_kept =
    list_of_merges memory (record { at = 0; size = 32 } ∷ record { at = 40; size = 32 } ∷ record { at = 80; size = 3 } ∷ []) actions
    (holds_written (written (λ k. 0) 0 older) 40 newer (holds_written (λ k. 0) 0 older (λ k. omega arith) refl) refl) sample_allowed
