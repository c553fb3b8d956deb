use Rattle.why.proofs.NumberLaws.{Reading}
use Rattle.why.proofs.number.read.Given as goal

-- the digits so far say n
abbrev pub invariant-loop-c : goal.invariant-loop-c
invariant-loop-c l = Reading l.s l.n l.c-index
