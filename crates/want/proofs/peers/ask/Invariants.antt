use Prim.Native.Nat.{ℕ}
use mathlib.Core.List.{map}
use Rattle.want.specs.Listing.{block_with}
use Rattle.want.specs.Steps.Places.{table_at}
use Rattle.want.specs.Steps.Runs.{has_run, run_at, Along}
use Rattle.want.proofs.PlaceLaws.{Asking}
use Rattle.want.proofs.peers.ask.Given as goal

abbrev pub invariant-loop-k : goal.invariant-loop-k
invariant-loop-k l =
    Asking (λ (i : ℕ). has_run (table_at (map (λ x. x.now) l.tables) i) (run_at l.runs i) l.offset (block_with l.size l.hash)) l.k × Along (map (λ x. x.now) l.tables) l.runs l.marks l.offset
