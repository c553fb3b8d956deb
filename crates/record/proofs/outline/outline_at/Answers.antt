-- Each return is one of the laws of an outline.
use Rattle.std.proofs.Common.{ℕ, ◌+◌, sym, refl, ap, ◌∙◌, arith}
use Rattle.xdr.specs.Pad.{padded}
use Rattle.record.specs.Outline.{word_at, outline_from}
use Rattle.record.proofs.StringLaws.{string_there, string_missing}
use Rattle.record.proofs.OutlineLaws.{outline_cut, outline_is}
use Rattle.record.proofs.outline.outline_at.Goals as goal

pub returns-in_err-string : goal.returns-in_err-string
returns-in_err-string c =
    let s = c.args.s.now in
    c.from_residual.ensures
    ∙ outline_cut s c.args.at (word_at s c.args.at) refl (string_missing s c.args.at (sym c.in_err-string.was ∙ c.string_at.ensures))

pub overflow_add-name : goal.overflow_add-name
overflow_add-name c = let k = string_there _ _ (sym c.in_ok-string.was ∙ c.string_at.ensures) in omega (arith, k.ends, k.room)

pub overflow_add-name-2 : goal.overflow_add-name-2
overflow_add-name-2 c = let k = string_there _ _ (sym c.in_ok-string.was ∙ c.string_at.ensures) in omega (arith, k.is, k.ends, k.room)

pub returns : goal.returns
returns c =
    let s = c.args.s.now in
    let at = c.args.at in
    let n = c.in_ok-string.string.length in
    let k = string_there s at (sym c.in_ok-string.was ∙ c.string_at.ensures) in
    c.outline_from.ensures
    ∙ ap (outline_from s (at + 4) (at + 4 + n)) (k.ends ∙ ap (λ (m : ℕ). at + 4 + padded m) (sym k.is))
    ∙ outline_is s at n (at + 4) k.is refl
