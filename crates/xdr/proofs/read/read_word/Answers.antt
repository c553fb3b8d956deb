-- Each return is a step of reading a number.
use Prim.Native.Nat.{ℕ, ◌+◌}
use mathlib.Core.Path.{ap, ◌∙◌}
use native.Mathlib.Omega.{arith}
use Rattle.std.specs.Prelude.{Ok}
use Rattle.xdr.specs.Answers.{word_answer}
use Rattle.xdr.proofs.Steps.{answered, number_short, number_whole}
use Rattle.xdr.proofs.read.read_word.Goals as goal
use Rattle.xdr.proofs.read.read_word.Goals.{then-s-lt4-via-then-s-lt4, then-s-lt4-via-else-s-lt4+then-s-at}

pub returns-then-s-lt4 : goal.returns-then-s-lt4
returns-then-s-lt4 c =
    elim c.then-s-lt4.branch [
      | then-s-lt4-via-then-s-lt4 w ↦ answered word_answer (number_short (omega arith))
      | then-s-lt4-via-else-s-lt4+then-s-at w ↦ answered word_answer (number_short (omega arith))
    ]

pub returns : goal.returns
returns c =
    ap (λ (n : ℕ). Ok (n, c.args.at + 4)) c.word_at.ensures ∙ answered word_answer (number_whole c.args.s.now c.args.at 4 (omega arith))
