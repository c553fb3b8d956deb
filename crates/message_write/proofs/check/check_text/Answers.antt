-- The opaque's step, and then the test of its contents.
use Rattle.std.specs.Prelude.{Ok, Err}
use Prim.Native.Nat.{ℕ, ◌+◌, ◌-◌, min}
use mathlib.Core.List.{List}
use mathlib.Core.Path.{◌≡◌, sym, ap, subst, ◌∙◌}
use native.Mathlib.Omega.{arith}
use borrow.Author.Tests.{eq-eqb, ne_eqb}
use lib.ListN.{length}
use Rattle.xdr.specs.Reading.{taken}
use Rattle.xdr.specs.Text.{sound_up_to}
use Rattle.xdr.specs.Fields.{word, opaque}
use Rattle.xdr.specs.Format.{bytes, encode}
use Rattle.xdr.specs.Answers.{bytes_answer}
use Rattle.xdr.proofs.TextRule.{sound_within}
use Rattle.xdr.proofs.Strings.{string_ends}
use Rattle.xdr.proofs.Answered.{handed_up, bytes_taken, bytes_refused}
use Rattle.xdr.proofs.Steps.{Reads, answered, checked_refused, checked_failed_at, checked_passed}
use Rattle.xdr.proofs.Told.{told_same}
use Rattle.message_write.proofs.check.check_text.Goals as goal

-- the opaque that was read: its contents are those that were given
opaque-read : (limit : ℕ) (l : List ℕ) {x : List ℕ} {n size : ℕ} → Reads (opaque limit) (encode (bytes word) l) 0 (taken x size) → length x ≡ n
    → Reads (opaque limit) (encode (bytes word) l) 0 (taken l size) × (length l ≡ n)
opaque-read limit l {x} {n} {size} q e =
    let same : x ≡ l = (told_same l q).0 in
    (subst (λ (y : List ℕ). Reads (opaque limit) (encode (bytes word) l) 0 (taken y size)) same q, sym (ap length same) ∙ e)

pub returns-in_default : goal.returns-in_default
returns-in_default c = handed_up c.in_default.is c.refusal_of.ensures ∙ answered bytes_answer (checked_refused (bytes_refused c.check_bytes-answer.ensures c.in_default.is))

pub returns-then-sound-n : goal.returns-then-sound-n
returns-then-sound-n c =
    let q = bytes_taken c.check_bytes-answer.ensures c.in-Ok.is in
    let o = opaque-read c.args.limit c.args.l.now q.1 q.2 in
    ap (λ (n : ℕ). Ok (n, c.in-Ok.size)) (sym o.1)
    ∙ answered bytes_answer (checked_passed o.0 (eq-eqb _ _ (sym c.sound_up_to-sound.ensures ∙ c.if-sound-n.true ∙ sym o.1)))

pub overflow_add-result : goal.overflow_add-result
overflow_add-result c = let w = sound_within c.args.l.now in omega arith

pub returns-else-sound-n : goal.returns-else-sound-n
returns-else-sound-n c =
    let l = c.args.l.now in
    let q = bytes_taken c.check_bytes-answer.ensures c.in-Ok.is in
    let o = opaque-read c.args.limit l q.1 q.2 in
    let there : 4 + c.sound_up_to-sound.result ≡ 0 + min (4 + sound_up_to l) (c.in-Ok.size - 0) = omega (arith, sound_within l, string_ends o.0) in
    ap (λ (p : ℕ). Err (record { number = 7; place = p })) there
    ∙ answered bytes_answer (checked_failed_at o.0 (ne_eqb _ _ (λ e. c.if-sound-n.false (c.sound_up_to-sound.ensures ∙ e ∙ o.1))))
