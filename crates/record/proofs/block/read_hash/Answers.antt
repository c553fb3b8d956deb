-- Each return is a step of reading an opaque.
use Rattle.std.specs.Prelude.{Ok}
use Rattle.std.proofs.Common.{◌≡◌, ℕ, ◌+◌, length, take, drop, sym, refl, ap, ◌∙◌, length-drop, length-take-le, ne_eqb}
use Rattle.xdr.specs.Answers.{bytes_answer}
use Rattle.xdr.proofs.Answered.{handed_up, word_taken, word_refused}
use Rattle.xdr.proofs.PadLaws.{zeros_zero}
use Rattle.xdr.proofs.Steps.{answered, checked_refused, checked_failed, checked_passed, ends_word, number_refused, length_refused, cut_off, bytes_read}
use Rattle.record.proofs.block.read_hash.Goals as goal

pub returns-in_default : goal.returns-in_default
returns-in_default c = handed_up c.in_default.is c.refusal_of.ensures ∙ let w = word_refused c.read_word-answer.ensures c.in_default.is in answered bytes_answer (length_refused (checked_refused w) (number_refused w))

pub returns-then-len-ne32 : goal.returns-then-len-ne32
returns-then-len-ne32 c = answered bytes_answer (length_refused (checked_failed (word_taken c.read_word-answer.ensures c.in-Ok.is) (ne_eqb _ _ c.if-len-ne32.true)) refl)

pub overflow_sub-s : goal.overflow_sub-s
overflow_sub-s c = (ends_word (word_taken c.read_word-answer.ensures c.in-Ok.is)).1

pub returns-then-s-start-lt32 : goal.returns-then-s-start-lt32
returns-then-s-start-lt32 c = answered bytes_answer (cut_off (checked_passed (word_taken c.read_word-answer.ensures (c.in-Ok.is ∙ ap (λ (n : ℕ). Ok (n, c.in-Ok.start)) c.if-len-ne32.false)) refl) c.if-s-start-lt32.true)

pub returns : goal.returns
returns c =
    let m = c.in-Ok.start in
    let s = c.args.s.now in
    let long : length (take 32 (drop m s)) ≡ 32 = length-take-le 32 (drop m s) (simp length-drop c.if-s-start-lt32.false) in
    ap (λ (k : ℕ). Ok (k, (m + 32))) (sym long) ∙ answered bytes_answer (bytes_read (checked_passed (word_taken c.read_word-answer.ensures (c.in-Ok.is ∙ ap (λ (n : ℕ). Ok (n, c.in-Ok.start)) c.if-len-ne32.false)) refl) c.if-s-start-lt32.false (zeros_zero 0))
