-- What is left of the rounds makes of the state now what all make of the first.
use Rattle.std.proofs.Common.{◌≡◌, ◌-◌, ◌*◌, drop}
use Rattle.sha256.specs.Constants.{K}
use Rattle.sha256.specs.Schedule.{extended, schedule}
use Rattle.sha256.specs.Hash as fips
use Rattle.sha256.specs.Steps.{words_in}
use Rattle.sha256.proofs.compress.rounds.Given as goal

abbrev pub invariant-loop-row : goal.invariant-loop-row
invariant-loop-row l =
    fips.rounds K (schedule (words_in l.initial.block)) l.initial.state ≡ fips.rounds (drop (l.row * 16) K) (extended ((3 - l.row) * 16) (words_in l.block)) l.state
