-- The length decides.
use Rattle.std.specs.Prelude.{Ok}
use Prim.Native.Nat.{ℕ, ◌+◌}
use mathlib.Core.Path.{◌≡◌, sym, ap, ◌∙◌}
use native.Mathlib.Omega.{arith}
use borrow.Author.Tests.{eq-eqb, ne_eqb}
use lib.ListN.{length}
use Rattle.xdr.specs.Pad.{padded}
use Rattle.xdr.specs.Answers.{bytes_answer}
use Rattle.xdr.proofs.Steps.{answered}
use Rattle.xdr.proofs.Told.{told_taken, told_refused}
use Rattle.message_write.proofs.check.check_hash.Goals as goal

pub returns-then-l-ne32 : goal.returns-then-l-ne32
returns-then-l-ne32 c = answered bytes_answer (told_refused c.args.l.now (ne_eqb _ _ c.if-l-ne32.true))

pub returns : goal.returns
returns c =
    let l = c.args.l.now in
    let size : 36 ≡ 4 + padded (length l) = omega (arith, c.if-l-ne32.false) in
    ap (λ (n : ℕ). Ok (32, n)) size ∙ ap (λ (n : ℕ). Ok (n, (4 + padded (length l)))) (sym c.if-l-ne32.false) ∙ answered bytes_answer (told_taken l (eq-eqb _ _ c.if-l-ne32.false))
