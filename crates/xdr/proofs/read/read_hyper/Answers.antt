-- Each return is a step of reading a number.
use Prim.Native.Nat.{ℕ, ◌+◌}
use mathlib.Core.Path.{ap, ◌∙◌}
use native.Mathlib.Omega.{arith}
use Rattle.std.specs.Prelude.{Ok}
use Rattle.xdr.specs.Answers.{hyper_answer}
use Rattle.xdr.proofs.Steps.{answered, number_short, number_whole}
use Rattle.xdr.proofs.read.read_hyper.Goals as goal
use Rattle.xdr.proofs.read.read_hyper.Goals.{then-s-lt8-via-then-s-lt8, then-s-lt8-via-else-s-lt8+then-s-at}

pub returns-then-s-lt8 : goal.returns-then-s-lt8
returns-then-s-lt8 c =
    elim c.then-s-lt8.branch [
      | then-s-lt8-via-then-s-lt8 w ↦ answered hyper_answer (number_short (omega arith))
      | then-s-lt8-via-else-s-lt8+then-s-at w ↦ answered hyper_answer (number_short (omega arith))
    ]

pub returns : goal.returns
returns c =
    ap (λ (n : ℕ). Ok (n, c.args.at + 8)) c.hyper_at.ensures ∙ answered hyper_answer (number_whole c.args.s.now c.args.at 8 (omega arith))
