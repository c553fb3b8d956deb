-- The bytes that are left make of the state now what all make of the first.
use Rattle.std.proofs.Common.{◌≡◌}
use Rattle.sha256.specs.Hash.{hash_all}
use Rattle.sha256.proofs.compress.hash_blocks.Given as goal

abbrev pub invariant-loop-bytes : goal.invariant-loop-bytes
invariant-loop-bytes l = (l.bytes-iterator.size ≡ 64) × (hash_all l.initial.state l.s ≡ hash_all l.state l.bytes-iterator.rest.now)
