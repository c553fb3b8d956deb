-- The length decides.
use Rattle.std.proofs.Common.{ℕ}
use Rattle.std.specs.Prelude.{Ok}
use Prim.Native.Nat.{◌+◌}
use mathlib.Core.Path.{◌≡◌, ap, ◌∙◌}
use native.Mathlib.Omega.{arith}
use borrow.Author.Tests.{le-leb, lt-leb}
use lib.ListN.{length}
use Rattle.xdr.specs.Pad.{padded}
use Rattle.xdr.specs.Answers.{bytes_answer}
use Rattle.xdr.proofs.Steps.{answered}
use Rattle.xdr.proofs.Told.{told_taken, told_refused}
use Rattle.message_write.proofs.check.check_bytes.Goals as goal

pub returns-then-limit-n : goal.returns-then-limit-n
returns-then-limit-n c = answered bytes_answer (told_refused c.args.l.now (lt-leb _ _ c.if-limit-n.true))

pub returns : goal.returns
returns c =
    let l = c.args.l.now in
    let size : 4 + length l + c.pad_after.result ≡ 4 + padded (length l) = omega (arith, c.pad_after.ensures) in
    ap (λ (n : ℕ). Ok (length l, n)) size ∙ answered bytes_answer (told_taken l (le-leb _ _ c.if-limit-n.false))
