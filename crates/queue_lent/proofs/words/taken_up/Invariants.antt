use Prim.Native.Nat.{◌≤◌, ◌-◌}
use mathlib.Core.Path.{◌≡◌}
use mathlib.Core.List.{◌++◌}
use lib.ListN.{length, replicate}
use Rattle.link.specs.Requests.{blank}
use Rattle.queue_lent.specs.Words.{tabulated, entry_at}
use Rattle.queue_lent.proofs.words.taken_up.Given as goal

abbrev pub invariant-loop-i : goal.invariant-loop-i
invariant-loop-i l = (l.i ≤ 16) × ((length l.words ≡ 35) × (l.entries ≡ tabulated (entry_at l.words) l.i ++ replicate (16 - l.i) blank))
