-- No top bit is set in either of two numbers.
use Rattle.std.proofs.Common.{rules}
use Prim.Native.Nat.{ℕ, ◌+◌}
use mathlib.Core.Path.{refl, sym, ap, ◌∙◌}
use borrow.Author.Tests.{eqb-true}
use lib.Bits.{bit_and}
use Rattle.xdr.specs.Number.{IsBytes}
use Rattle.xdr.proofs.TopBits.{neither}
use Rattle.xdr.proofs.TextRule.{ascii_four, in_a_row}
use Rattle.xdr.proofs.text.plain_eight_at.Goals as goal

pub returns : goal.returns
returns c =
    let a = c.args in
    let fit : IsBytes a.s.now = λ i. (c.shared_slice_known-1.given i).fits in
    λ e.
    let none = neither 2155905152 c.little_endian_at.result c.little_endian_at-2.result (eqb-true _ 0 e) in
    in_a_row a.s.now a.at 4 4 8 refl
    (ascii_four a.s.now a.at fit (search rules) (ap (λ (w : ℕ). bit_and w 2155905152) (sym c.little_endian_at.ensures) ∙ none.0))
    (ascii_four a.s.now (a.at + 4) fit (search rules) (ap (λ (w : ℕ). bit_and w 2155905152) (sym c.little_endian_at-2.ensures) ∙ none.1))
