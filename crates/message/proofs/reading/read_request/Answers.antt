-- Each field that was read is a step, and each return the steps up to it.
use Rattle.std.proofs.Common.{◌≤◌}
use Rattle.std.specs.Prelude.{Ok}
use Rattle.std.specs.declared.result.Result.{Result}
use Rattle.xdr.specs.declared.answer.Refusal.{Refusal}
use Rattle.message.specs.declared.answer.Message.{Message}
use Prim.Native.Nat.{ℕ, ◌+◌}
use mathlib.Core.List.{List}
use mathlib.Core.Path.{◌≡◌, refl, ap, ◌∙◌}
use native.Mathlib.Omega.{arith}
use lib.ListN.{length}
use Rattle.xdr.specs.Reading.{taken}
use Rattle.xdr.specs.Pad.{padded}
use Rattle.xdr.specs.Fields.{hyper}
use Rattle.xdr.proofs.Answered.{handed_up, word_taken, word_refused, bytes_taken, bytes_refused}
use Rattle.xdr.proofs.Steps.{Reads, answered, first_refused, both_read, via_refused, via_taken, passed, ends_word}
use Rattle.xdr.proofs.Strings.{string_ends}
use Rattle.record.specs.Block.{size}
use Rattle.record.proofs.NameSteps.{name_string}
use Rattle.message.specs.Answers.{span, past_repository, request_answer}
use Rattle.message.specs.declared.answer.Message.TheVariants as M
use Rattle.message.proofs.RepositoryLaws.{repository_taken, repository_refused}
use Rattle.message.proofs.reading.read_request.Goals as goal

-- an answer with the lengths of what was read
same_span : {id i j r x a b n y o l p q h z e : ℕ} → i ≡ j → x ≡ r → a ≡ b → y ≡ n → p ≡ q → z ≡ h
    → ◌≡◌ {A = Result Message Refusal} (Ok (M.Request id (record { repository = span i r; name = span a n; offset = o; size = l; hash = span p h; end = e })))
    (Ok (M.Request id (record { repository = span j x; name = span b y; offset = o; size = l; hash = span q z; end = e })))
same_span s u v w t i = rw (s, u, v, w, t, i) refl

pub returns-in_default : goal.returns-in_default
returns-in_default c = handed_up c.in_default.is c.refusal_of.ensures ∙ answered (request_answer c.args.edition c.args.id) (via_refused (first_refused (repository_refused c.args.edition c.read_repository-repository.ensures c.in_default.is)))

pub returns-in_default-name : goal.returns-in_default-name
returns-in_default-name c = handed_up c.in_default-name.is c.refusal_of-in_default-name.ensures ∙ answered (request_answer c.args.edition c.args.id) (via_refused (both_read (repository_taken c.args.edition c.read_repository-repository.ensures c.in-Ok.is).reads (first_refused (bytes_refused c.read_name-name.ensures c.in_default-name.is))))

pub returns-in_default-offset : goal.returns-in_default-offset
returns-in_default-offset c = handed_up c.in_default-offset.is c.refusal_of-in_default-offset.ensures ∙ answered (request_answer c.args.edition c.args.id) (via_refused (both_read (repository_taken c.args.edition c.read_repository-repository.ensures c.in-Ok.is).reads (both_read (bytes_taken c.read_name-name.ensures c.in-Ok-name.is).1 (first_refused (word_refused c.read_hyper-offset.ensures c.in_default-offset.is)))))

pub returns-in_default-length : goal.returns-in_default-length
returns-in_default-length c = handed_up c.in_default-length.is c.refusal_of-in_default-length.ensures ∙ answered (request_answer c.args.edition c.args.id) (via_refused (both_read (repository_taken c.args.edition c.read_repository-repository.ensures c.in-Ok.is).reads (both_read (bytes_taken c.read_name-name.ensures c.in-Ok-name.is).1 (both_read (word_taken c.read_hyper-offset.ensures c.in-Ok-offset.is) (first_refused (word_refused c.read_size-length.ensures c.in_default-length.is))))))

pub returns-in_default-hash : goal.returns-in_default-hash
returns-in_default-hash c = handed_up c.in_default-hash.is c.refusal_of-in_default-hash.ensures ∙ answered (request_answer c.args.edition c.args.id) (via_refused (both_read (repository_taken c.args.edition c.read_repository-repository.ensures c.in-Ok.is).reads (both_read (bytes_taken c.read_name-name.ensures c.in-Ok-name.is).1 (both_read (word_taken c.read_hyper-offset.ensures c.in-Ok-offset.is) (both_read (word_taken c.read_size-length.ensures c.in-Ok-length.is) (bytes_refused c.read_hash-hash.ensures c.in_default-hash.is))))))

-- where the name and the hash begin is within the bytes
places : {s : List ℕ} {o l a b : ℕ} → Reads hyper s a (taken o b) → {d : ℕ} → Reads size s b (taken l d) → (a ≤ d) × (d ≤ length s)
places o l = let w = ends_word o in let v = ends_word (passed l) in (omega arith, v.1)

pub overflow_add-span : goal.overflow_add-span
overflow_add-span c =
    let n = string_ends (name_string (bytes_taken c.read_name-name.ensures c.in-Ok-name.is).1) in
    let w = places (word_taken c.read_hyper-offset.ensures c.in-Ok-offset.is) (word_taken c.read_size-length.ensures c.in-Ok-length.is) in
    omega arith

pub overflow_add-span-2 : goal.overflow_add-span-2
overflow_add-span-2 c =
    let w = places (word_taken c.read_hyper-offset.ensures c.in-Ok-offset.is) (word_taken c.read_size-length.ensures c.in-Ok-length.is) in
    omega arith

pub returns : goal.returns
returns c =
    let r = repository_taken c.args.edition c.read_repository-repository.ensures c.in-Ok.is in
    let n = bytes_taken c.read_name-name.ensures c.in-Ok-name.is in
    let o = word_taken c.read_hyper-offset.ensures c.in-Ok-offset.is in
    let l = word_taken c.read_size-length.ensures c.in-Ok-length.is in
    let h = bytes_taken c.read_hash-hash.ensures c.in-Ok-hash.is in
    let hash_at : c.in-Ok-length.hash_at + 4 ≡ past_repository c.args.edition r.value + 4 + padded (length n.0) + 16 =
    omega (arith, r.ends, string_ends (name_string n.1), (ends_word o).0, (ends_word (passed l)).0) in
    same_span c.repository_start.ensures r.long (ap (λ (m : ℕ). m + 4) r.ends) n.2 hash_at h.2
    ∙ answered (request_answer c.args.edition c.args.id) (via_taken (both_read r.reads (both_read n.1 (both_read o (both_read l h.1)))))
