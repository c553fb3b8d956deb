-- The opaque's steps, and then the test of its contents.
use Prim.Native.Nat.{ℕ, ◌+◌, ◌-◌, ◌≤◌, min}
use mathlib.Core.List.{List}
use mathlib.Core.Path.{◌≡◌, sym, ap, ◌∙◌}
use native.Mathlib.Omega.{arith}
use borrow.Author.Tests.{eq-eqb, ne_eqb}
use lib.ListN.{take, drop}
use Rattle.std.specs.Prelude.{Ok, Err}
use Rattle.xdr.specs.Text.{sound_up_to}
use Rattle.xdr.specs.Answers.{bytes_answer}
use Rattle.xdr.proofs.TextRule.{sound_within}
use Rattle.xdr.proofs.Answered.{handed_up, OpaqueAt, opaque_taken, bytes_refused}
use Rattle.xdr.proofs.Steps.{answered, checked_refused, checked_failed_at, checked_passed}
use Rattle.xdr.proofs.read.read_text.Goals as goal

-- how far the contents of the opaque keep the text rule
sound : {limit : ℕ} {s : List ℕ} {at n next z : ℕ} (o : OpaqueAt limit s at n next)
    → z ≡ sound_up_to (take (at + 4 + n - (at + 4)) (drop (at + 4) s)) → z ≡ sound_up_to o.value
sound {limit} {s} {at} {n} {next} {z} o h =
    let same : at + 4 + n - (at + 4) ≡ n = omega arith in
    h ∙ ap (λ (k : ℕ). sound_up_to (take k (drop (at + 4) s))) same ∙ ap sound_up_to (sym o.value_is)

pub returns-in_default : goal.returns-in_default
returns-in_default c = handed_up c.in_default.is c.refusal_of.ensures ∙ answered bytes_answer (checked_refused (bytes_refused c.read_bytes-answer.ensures c.in_default.is))

pub overflow_add-start : goal.overflow_add-start
overflow_add-start c = let o = opaque_taken c.read_bytes-answer.ensures c.in-Ok.is in omega arith

pub overflow_add-end : goal.overflow_add-end
overflow_add-end c = let o = opaque_taken c.read_bytes-answer.ensures c.in-Ok.is in omega arith

pub slice_bounds-sound_up_to-end : goal.slice_bounds-sound_up_to-end
slice_bounds-sound_up_to-end c = let o = opaque_taken c.read_bytes-answer.ensures c.in-Ok.is in omega arith

pub returns-then-sound-n : goal.returns-then-sound-n
returns-then-sound-n c =
    let o = opaque_taken c.read_bytes-answer.ensures c.in-Ok.is in
    let kept = sound o c.sound_up_to-sound.ensures in
    ap (λ (k : ℕ). Ok (k, c.in-Ok.next)) (sym o.long)
    ∙ answered bytes_answer (checked_passed o.opaque_is (eq-eqb _ _ (sym kept ∙ c.if-sound-n.true ∙ sym o.long)))

pub overflow_add-result : goal.overflow_add-result
overflow_add-result c =
    let o = opaque_taken c.read_bytes-answer.ensures c.in-Ok.is in
    omega (arith, sound o c.sound_up_to-sound.ensures, sound_within o.value, o.long)

pub returns-else-sound-n : goal.returns-else-sound-n
returns-else-sound-n c =
    let o = opaque_taken c.read_bytes-answer.ensures c.in-Ok.is in
    let kept = sound o c.sound_up_to-sound.ensures in
    let within : c.sound_up_to-sound.result ≤ c.in-Ok.n = omega (arith, kept, sound_within o.value, o.long) in
    let there : c.args.at + 4 + c.sound_up_to-sound.result ≡ c.args.at + min (4 + sound_up_to o.value) (c.in-Ok.next - c.args.at) = omega (arith, kept, within) in
    ap (λ (p : ℕ). Err (record { number = 7; place = p })) there
    ∙ answered bytes_answer (checked_failed_at o.opaque_is (ne_eqb _ _ (λ e. c.if-sound-n.false (kept ∙ e ∙ o.long))))
