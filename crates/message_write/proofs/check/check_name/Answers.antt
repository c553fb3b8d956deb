-- The string's step, and then the tests of its contents.
use Rattle.std.specs.Prelude.{Err}
use Rattle.std.specs.Prelude.{Ok}
use Prim.Native.Nat.{ℕ}
use mathlib.Core.List.{List}
use mathlib.Core.Path.{◌≡◌, sym, ap, ◌∙◌}
use Rattle.xdr.specs.Reading.{taken}
use Rattle.xdr.specs.Fields.{word, text}
use Rattle.xdr.specs.Format.{bytes, encode}
use Rattle.xdr.specs.Answers.{bytes_answer}
use Rattle.xdr.proofs.Answered.{handed_up, bytes_taken, bytes_refused}
use Rattle.xdr.proofs.Steps.{Reads, answered, passed}
use Rattle.xdr.proofs.Told.{told_same}
use Rattle.record.specs.Limits.{name_limit}
use Rattle.record.specs.Steps.{name_fault}
use Rattle.record.proofs.NameSteps.{name_refused, name_faulty, name_sound}
use Rattle.message_write.proofs.check.check_name.Goals as goal

pub returns-in_default : goal.returns-in_default
returns-in_default c = handed_up c.in_default.is c.refusal_of.ensures ∙ answered bytes_answer (name_refused (bytes_refused c.check_text-answer.ensures c.in_default.is))

-- the contents that were read are those that were given
fault : (l : List ℕ) {x : List ℕ} {n : ℕ} → Reads (text name_limit) (encode (bytes word) l) 0 (taken x n) → name_fault l ≡ name_fault x
fault l h = ap name_fault (sym (told_same l (passed h)).0)

pub returns-in-Some : goal.returns-in-Some
returns-in-Some c =
    let q = bytes_taken c.check_text-answer.ensures c.in-Ok.is in
    ap Err c.at_start.ensures ∙ answered bytes_answer (name_faulty q.1 (sym (fault c.args.l.now q.1) ∙ sym c.name_fault.ensures ∙ c.in-Some.is))

pub returns : goal.returns
returns c =
    let q = bytes_taken c.check_text-answer.ensures c.in-Ok.is in
    ap (λ (n : ℕ). Ok (n, c.in-Ok.size)) (sym q.2)
    ∙ answered bytes_answer (name_sound q.1 (sym (fault c.args.l.now q.1) ∙ sym c.name_fault.ensures ∙ c.in_default-name_fault.is))
