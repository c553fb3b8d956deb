-- The four settings one after another, each wherever the one before it ends.
use Prim.Native.Nat.{ℕ, ◌+◌, ◌≤◌}
use mathlib.Core.List.{[], ◌∷◌}
use mathlib.Core.Path.{◌≡◌, sym, ◌∙◌}
use native.Mathlib.Omega.{arith}
use Rattle.std.specs.Option.{option_copied}
use Rattle.std.specs.Prelude.{Ok}
use Rattle.std.specs.declared.result.Result.{Result}
use Rattle.xdr.specs.declared.answer.Refusal.{Refusal}
use Rattle.xdr.proofs.Answered.{handed_on}
use Rattle.settings.specs.Reading.{none, read_from, reading}
use Rattle.settings.specs.Saving.{Setting, fields_of, tagged}
use Rattle.settings.specs.Steps.{end_answer, setting_end}
use Rattle.settings.specs.declared.answer.Settings.{Settings}
use Rattle.settings.proofs.SettingLaws.{filled_right, short_setting, step_refused, step_on, step_last}
use Rattle.settings.proofs.saving.settings_end.Goals as goal

-- a setting ends 258 bytes further on at most
near : (at tag : ℕ) (x : Setting) {n : ℕ} → tag ≤ 128 → setting_end at tag x ≡ Ok n → n ≤ at + 258
near at tag x h e = let w = filled_right at tag x e in omega (arith, w.1, short_setting tag x h w.0)

-- behind one, two and three settings that are taken
module _ (w a r n : Setting) {p x : Result ℕ Refusal} {second : ℕ} (e : p ≡ setting_end 0 1 w) (f : p ≡ Ok second) where
  one : ((least : ℕ) (so : Settings) → least ≤ 2 → x ≡ end_answer (read_from (fields_of ((2, a) ∷ (3, r) ∷ (128, n) ∷ [])) 0 least second so)) → x ≡ end_answer (reading (fields_of (tagged w a r n)))
  one k = step_on 0 1 w e 0 none (omega arith) (fields_of ((2, a) ∷ (3, r) ∷ (128, n) ∷ [])) f k

  module _ {o : Result ℕ Refusal} {third : ℕ} (g : o ≡ setting_end second 2 a) (h : o ≡ Ok third) where
    two : ((least : ℕ) (so : Settings) → least ≤ 3 → x ≡ end_answer (read_from (fields_of ((3, r) ∷ (128, n) ∷ [])) 0 least third so)) → x ≡ end_answer (reading (fields_of (tagged w a r n)))
    two k = one (λ least so l. step_on second 2 a g least so l (fields_of ((3, r) ∷ (128, n) ∷ [])) h k)

    three : {q : Result ℕ Refusal} {fourth : ℕ} → q ≡ setting_end third 3 r → q ≡ Ok fourth
        → ((least : ℕ) (so : Settings) → least ≤ 4 → x ≡ end_answer (read_from (fields_of ((128, n) ∷ [])) 0 least fourth so)) → x ≡ end_answer (reading (fields_of (tagged w a r n)))
    three i j k = two (λ least so l. step_on third 3 r i least so l (fields_of ((128, n) ∷ [])) j k)

pub returns-in_err-second : goal.returns-in_err-second
returns-in_err-second c =
    let w = option_copied c.args.own.window in
    let a = option_copied c.args.own.allowance in
    let r = option_copied c.args.own.repository in
    let n = option_copied c.args.own.note in
    handed_on c.from_residual.result c.from_residual.ensures.1
    ∙ sym c.in_err-second.was
    ∙ step_refused 0 1 w c.setting_end.ensures 0 none (omega arith) (fields_of ((2, a) ∷ (3, r) ∷ (128, n) ∷ [])) c.in_err-second.was

pub setting_end-requires-2 : goal.setting_end-requires-2
setting_end-requires-2 c =
    let k = near 0 1 (option_copied c.args.own.window) (omega arith) (sym c.setting_end.ensures ∙ c.in_ok-second.was) in
    (omega arith, omega arith)

pub returns-in_err-third : goal.returns-in_err-third
returns-in_err-third c =
    let w = option_copied c.args.own.window in
    let a = option_copied c.args.own.allowance in
    let r = option_copied c.args.own.repository in
    let n = option_copied c.args.own.note in
    handed_on c.from_residual-in_err-third.result c.from_residual-in_err-third.ensures.1
    ∙ sym c.in_err-third.was
    ∙ one w a r n c.setting_end.ensures c.in_ok-second.was
    (λ least so h. step_refused _ 2 a c.setting_end-2.ensures least so h (fields_of ((3, r) ∷ (128, n) ∷ [])) c.in_err-third.was)

pub setting_end-requires-3 : goal.setting_end-requires-3
setting_end-requires-3 c =
    let k = near 0 1 (option_copied c.args.own.window) (omega arith) (sym c.setting_end.ensures ∙ c.in_ok-second.was) in
    let m = near _ 2 (option_copied c.args.own.allowance) (omega arith) (sym c.setting_end-2.ensures ∙ c.in_ok-third.was) in
    (omega arith, omega arith)

pub returns-in_err-fourth : goal.returns-in_err-fourth
returns-in_err-fourth c =
    let w = option_copied c.args.own.window in
    let a = option_copied c.args.own.allowance in
    let r = option_copied c.args.own.repository in
    let n = option_copied c.args.own.note in
    handed_on c.from_residual-in_err-fourth.result c.from_residual-in_err-fourth.ensures.1
    ∙ sym c.in_err-fourth.was
    ∙ two w a r n c.setting_end.ensures c.in_ok-second.was c.setting_end-2.ensures c.in_ok-third.was
    (λ least so h. step_refused _ 3 r c.setting_end-3.ensures least so h (fields_of ((128, n) ∷ [])) c.in_err-fourth.was)

pub setting_end-requires-4 : goal.setting_end-requires-4
setting_end-requires-4 c =
    let k = near 0 1 (option_copied c.args.own.window) (omega arith) (sym c.setting_end.ensures ∙ c.in_ok-second.was) in
    let m = near _ 2 (option_copied c.args.own.allowance) (omega arith) (sym c.setting_end-2.ensures ∙ c.in_ok-third.was) in
    let j = near _ 3 (option_copied c.args.own.repository) (omega arith) (sym c.setting_end-3.ensures ∙ c.in_ok-fourth.was) in
    (omega arith, omega arith)

pub returns : goal.returns
returns c =
    let w = option_copied c.args.own.window in
    let a = option_copied c.args.own.allowance in
    let r = option_copied c.args.own.repository in
    let n = option_copied c.args.own.note in
    three w a r n c.setting_end.ensures c.in_ok-second.was c.setting_end-2.ensures c.in_ok-third.was c.setting_end-3.ensures c.in_ok-fourth.was
    (λ least so h. step_last _ 128 n c.setting_end-4.ensures least so (omega arith))
