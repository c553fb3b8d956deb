-- Each field that was read is a step, and each return the steps up to it.
use Rattle.std.specs.declared.result.Result.{Result}
use Rattle.xdr.specs.declared.answer.Refusal.{Refusal}
use Rattle.record.specs.declared.option.OptionSpan.{OptionSpan}
use Rattle.std.specs.Prelude.{Ok}
use Rattle.std.proofs.Common.{◌≡◌, ℕ, refl, ◌∙◌, arith}
use Rattle.xdr.proofs.Answered.{handed_up, bytes_taken, bytes_refused}
use Rattle.xdr.proofs.Steps.{answered, ends, via_refused, via_taken, first_refused, both_read, passed}
use Rattle.xdr.proofs.Strings.{string_ends}
use Rattle.record.specs.Answers.{option_answer}
use Rattle.record.proofs.option.read_option.Goals as goal

-- an answer with the lengths of what was read
same_span : {k x p q v y next : ℕ} → x ≡ k → p ≡ q → y ≡ v
    → ◌≡◌ {A = Result OptionSpan Refusal} (Ok (record { key_length = k; value_start = p; value_length = v; next = next }))
    (Ok (record { key_length = x; value_start = q; value_length = y; next = next }))
same_span d e f = rw (d, e, f) refl

pub returns-in_default : goal.returns-in_default
returns-in_default c = handed_up c.in_default.is c.refusal_of.ensures ∙ answered option_answer (via_refused (first_refused (bytes_refused c.read_text-key.ensures c.in_default.is)))

pub returns-in_default-value : goal.returns-in_default-value
returns-in_default-value c = handed_up c.in_default-value.is c.refusal_of-in_default-value.ensures ∙ answered option_answer (via_refused (both_read (bytes_taken c.read_text-key.ensures c.in-Ok.is).1 (bytes_refused c.read_text-value.ensures c.in_default-value.is)))

pub overflow_add-result : goal.overflow_add-result
overflow_add-result c =
    let w = (ends (omega arith) (bytes_taken c.read_text-key.ensures c.in-Ok.is).1).1 in
    omega arith

pub returns : goal.returns
returns c =
    let k = (bytes_taken c.read_text-key.ensures c.in-Ok.is) in
    let v = bytes_taken c.read_text-value.ensures c.in-Ok-value.is in
    same_span k.2 (omega (arith, string_ends (passed k.1))) v.2
    ∙ answered option_answer (via_taken (both_read k.1 v.1))
