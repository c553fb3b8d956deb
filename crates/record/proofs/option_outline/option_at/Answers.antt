-- Each return is one of the laws of an option's outline.
use Rattle.std.proofs.Common.{sym, ◌∙◌, arith}
use Rattle.record.proofs.StringLaws.{string_there, string_missing}
use Rattle.record.proofs.OptionLaws.{option_cut, option_short, option_whole}
use Rattle.record.proofs.option_outline.option_at.Goals as goal

pub returns-in_err-key : goal.returns-in_err-key
returns-in_err-key c = c.from_residual.ensures ∙ option_cut _ _ (string_missing _ _ (sym c.in_err-key.was ∙ c.string_at.ensures))

pub returns-in_err-value : goal.returns-in_err-value
returns-in_err-value c =
    let k = string_there _ _ (sym c.in_ok-key.was ∙ c.string_at.ensures) in
    c.from_residual-in_err-value.ensures ∙ option_short _ _ k (string_missing _ _ (sym c.in_err-value.was ∙ c.string_at-2.ensures))

pub overflow_add-result : goal.overflow_add-result
overflow_add-result c = let k = string_there _ _ (sym c.in_ok-key.was ∙ c.string_at.ensures) in omega (arith, k.ends, k.room)

pub overflow_add-result-2 : goal.overflow_add-result-2
overflow_add-result-2 c = let v = string_there _ _ (sym c.in_ok-value.was ∙ c.string_at-2.ensures) in omega (arith, v.ends, v.room)

pub returns : goal.returns
returns c =
    let k = string_there _ _ (sym c.in_ok-key.was ∙ c.string_at.ensures) in
    option_whole _ _ k (string_there _ _ (sym c.in_ok-value.was ∙ c.string_at-2.ensures))
