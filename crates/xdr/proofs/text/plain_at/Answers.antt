-- No top bit is set in the number that the four bytes are.
use Rattle.std.proofs.Common.{rules}
use Prim.Native.Nat.{ℕ}
use mathlib.Core.Path.{sym, ap, ◌∙◌}
use borrow.Author.Tests.{eqb-true}
use lib.Bits.{bit_and}
use Rattle.xdr.proofs.TextRule.{ascii_four}
use Rattle.xdr.proofs.text.plain_at.Goals as goal

pub returns : goal.returns
returns c =
    let a = c.args in
    λ e. ascii_four a.s.now a.at (λ i. (c.shared_slice_known-1.given i).fits) (search rules) (ap (λ (w : ℕ). bit_and w 2155905152) (sym c.little_endian_at.ensures) ∙ eqb-true _ 0 e)
