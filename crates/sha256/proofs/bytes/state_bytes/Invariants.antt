-- The first i words are in their bytes, and zeros follow.
use Rattle.std.proofs.Common.{◌≡◌, ◌-◌, ◌*◌, ◌++◌, take}
use Rattle.sha256.proofs.BlockLaws.{blank}
use Rattle.sha256.proofs.ByteLaws.{all_bytes}
use Rattle.sha256.proofs.bytes.state_bytes.Given as goal

abbrev pub invariant-loop-i : goal.invariant-loop-i
invariant-loop-i l = l.out ≡ all_bytes (take l.i l.w-items) ++ blank (32 - 4 * l.i)
