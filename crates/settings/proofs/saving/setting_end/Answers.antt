-- A setting that isn't there, one that is wrong, and one that is right.
use Prim.Native.Nat.{ℕ}
use mathlib.Core.List.{List}
use mathlib.Core.Path.{sym, ap, ◌∙◌}
use native.Mathlib.Omega.{arith}
use denote.Ref.{Bor}
use Rattle.std.specs.Option.{option_copied}
use Rattle.std.specs.declared.option.Option.{Option}
use Rattle.settings.specs.Steps.{setting_end}
use Rattle.settings.proofs.FieldLaws.{short, nothing_wrong}
use Rattle.settings.proofs.SavingLaws.{wrong_end, right_end}
use Rattle.settings.proofs.saving.setting_end.Goals as goal

pub returns-in_default : goal.returns-in_default
unfolding setting_end
returns-in_default c = ap (λ (x : Option (Bor (List ℕ))). setting_end c.args.at c.args.tag (option_copied x)) (sym c.in_default.is)

pub returns-in-Some-wrong : goal.returns-in-Some-wrong
returns-in-Some-wrong c =
    wrong_end c.args.at c.args.tag c.in-Some.contents.now (sym c.wrong.ensures ∙ c.in-Some-wrong.is)
    ∙ ap (λ (x : Option (Bor (List ℕ))). setting_end c.args.at c.args.tag (option_copied x)) (sym c.in-Some.is)

pub overflow_add-result-2 : goal.overflow_add-result-2
overflow_add-result-2 c =
    omega (arith, c.requires.0, short c.args.tag c.in-Some.contents.now c.requires.1 (nothing_wrong _ (sym c.wrong.ensures ∙ c.in_default-wrong.is)))

pub returns : goal.returns
returns c =
    right_end c.args.at c.args.tag c.in-Some.contents.now (sym c.wrong.ensures ∙ c.in_default-wrong.is)
    ∙ ap (λ (x : Option (Bor (List ℕ))). setting_end c.args.at c.args.tag (option_copied x)) (sym c.in-Some.is)
