-- A byte that is a sequence of its own.
use native.Mathlib.Omega.{arith}
use Rattle.xdr.proofs.TextRule.{goes_on, ascii_one}
use Rattle.xdr.proofs.text.step_at.Goals as goal

pub returns-then-s-at-lt128 : goal.returns-then-s-at-lt128
returns-then-s-at-lt128 c = goes_on _ _ 1 (λ z. omega arith) (ascii_one c.args.s.now c.args.at c.requires (omega (arith, c.if-s-at-lt128.true)))
