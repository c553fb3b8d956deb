-- The text's steps, and then the tests of its contents.
use Rattle.std.proofs.Common.{◌≡◌, ℕ, ◌+◌, ◌-◌, ◌≤◌, List, length, take, drop, sym, ap, ◌∙◌, arith}
use Rattle.std.specs.Prelude.{Ok}
use Rattle.xdr.specs.Reading.{taken}
use Rattle.xdr.specs.Answers.{bytes_answer}
use Rattle.xdr.specs.Fields.{text}
use Rattle.xdr.proofs.Answered.{handed_up, bytes_taken, bytes_refused}
use Rattle.xdr.proofs.Steps.{Reads, answered, passed}
use Rattle.xdr.proofs.Strings.{string_ends, string_there, string_within}
use Rattle.record.specs.Limits.{name_limit}
use Rattle.record.specs.Steps.{name_fault}
use Rattle.record.proofs.NameSteps.{name_refused, name_faulty, name_sound}
use Rattle.record.proofs.file.read_name.Goals as goal

-- the text ends within the bytes, and its contents are those that are tested

room : {s l : List ℕ} {at n next : ℕ} → Reads (text name_limit) s at (taken l next) → length l ≡ n → at + 4 + n ≤ length s
room q e = omega (arith, string_ends (passed q), string_within (passed q))

fault : {s l : List ℕ} {at n next : ℕ} → Reads (text name_limit) s at (taken l next) → length l ≡ n
    → name_fault (take (at + 4 + n - (at + 4)) (drop (at + 4) s)) ≡ name_fault l
fault {s} {l} {at} {n} q e =
    let size : at + 4 + n - (at + 4) ≡ length l = omega arith in
    ap (λ (k : ℕ). name_fault (take k (drop (at + 4) s))) size ∙ ap name_fault (string_there (passed q))

pub returns-in_default : goal.returns-in_default
returns-in_default c = handed_up c.in_default.is c.refusal_of.ensures ∙ answered bytes_answer (name_refused (bytes_refused c.read_text-answer.ensures c.in_default.is))

pub overflow_add-start : goal.overflow_add-start
overflow_add-start c = let q = bytes_taken c.read_text-answer.ensures c.in-Ok.is in omega (arith, room q.1 q.2)

pub slice_bounds-name_fault-end : goal.slice_bounds-name_fault-end
slice_bounds-name_fault-end c = let q = bytes_taken c.read_text-answer.ensures c.in-Ok.is in omega (arith, room q.1 q.2)

pub overflow_add-start-2 : goal.overflow_add-start-2
overflow_add-start-2 c = let q = bytes_taken c.read_text-answer.ensures c.in-Ok.is in omega (arith, room q.1 q.2)

pub returns-in-Some : goal.returns-in-Some
returns-in-Some c =
    let q = bytes_taken c.read_text-answer.ensures c.in-Ok.is in
    answered bytes_answer (name_faulty q.1 (sym (fault q.1 q.2) ∙ sym c.name_fault.ensures ∙ c.in-Some.is))

pub returns : goal.returns
returns c =
    let q = bytes_taken c.read_text-answer.ensures c.in-Ok.is in
    ap (λ (k : ℕ). Ok (k, c.in-Ok.next)) (sym q.2)
    ∙ answered bytes_answer (name_sound q.1 (sym (fault q.1 q.2) ∙ sym c.name_fault.ensures ∙ c.in_default-name_fault.is))
