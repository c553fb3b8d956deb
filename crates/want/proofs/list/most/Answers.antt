-- A table as it is lent, and how long it is at most.
use Prim.Native.Nat.{ℕ, ◌≤◌, ◌<◌}
use mathlib.Core.List.{List, [], map}
use mathlib.Core.Path.{◌≡◌, refl, ap}
use native.Mathlib.Omega.{arith}
use lib.ListN.{length, get_or}
use denote.Bor.{Bor}
use Rattle.want.specs.Steps.Places.{Five, table_at, list_of}
use Rattle.want.proofs.PlaceLaws.{element}
use Rattle.want.proofs.DoneLaws.{table_short, list_room}
use Rattle.want.proofs.EntryLaws.{bytes_length}
use Rattle.want.proofs.list.most.Goals as goal

same : (ts : List (Bor (List ℕ))) (k : ℕ) → length (get_or ts k (record { ref_ptr = (0, 0); now = [] })).now ≡ length (table_at (map (λ x. x.now) ts) k)
same ts k = ap length (element (λ x. x.now) ts k (record { ref_ptr = (0, 0); now = [] }) refl)

short : (ts : List (Bor (List ℕ))) → Five (map (λ x. x.now) ts) → (k : ℕ) → k < 5 → length (get_or ts k (record { ref_ptr = (0, 0); now = [] })).now ≤ 65536
short ts five k h = omega (arith, table_short five k h, same ts k)

pub overflow_add-result : goal.overflow_add-result
overflow_add-result c = omega (arith, short c.args.tables c.requires 1 (omega arith), short c.args.tables c.requires 2 (omega arith), short c.args.tables c.requires 3 (omega arith), short c.args.tables c.requires 4 (omega arith))

pub overflow_add-result-2 : goal.overflow_add-result-2
overflow_add-result-2 c = omega (arith, short c.args.tables c.requires 1 (omega arith), short c.args.tables c.requires 2 (omega arith), short c.args.tables c.requires 3 (omega arith), short c.args.tables c.requires 4 (omega arith))

pub overflow_add-result-3 : goal.overflow_add-result-3
overflow_add-result-3 c = omega (arith, short c.args.tables c.requires 1 (omega arith), short c.args.tables c.requires 2 (omega arith), short c.args.tables c.requires 3 (omega arith), short c.args.tables c.requires 4 (omega arith))

pub overflow_mul-result : goal.overflow_mul-result
overflow_mul-result c = omega (arith, short c.args.tables c.requires 1 (omega arith), short c.args.tables c.requires 2 (omega arith), short c.args.tables c.requires 3 (omega arith), short c.args.tables c.requires 4 (omega arith))

pub returns : goal.returns
returns c = omega (arith, list_room c.requires, bytes_length (list_of (map (λ x. x.now) c.args.tables)), same c.args.tables 1, same c.args.tables 2, same c.args.tables 3, same c.args.tables 4)
