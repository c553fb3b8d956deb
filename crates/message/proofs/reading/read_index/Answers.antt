-- The repository's step, and the files where their part begins.
use Rattle.std.proofs.Common.{◌≡◌, ℕ, ◌+◌, ◌-◌, length, refl, ◌∙◌, arith}
use Rattle.std.specs.Prelude.{Ok}
use Rattle.std.specs.declared.result.Result.{Result}
use Rattle.xdr.specs.declared.answer.Refusal.{Refusal}
use Rattle.xdr.proofs.Answered.{handed_up, refusal_is}
use Rattle.xdr.proofs.Steps.{answered, ends, refused_within, first_refused, both_read}
use Rattle.record.specs.File.{files}
use Rattle.record.proofs.Arrays.{next_pair, next_refused}
use Rattle.message.specs.Limits.{files_limit}
use Rattle.message.specs.Answers.{span, past_repository, index_answer}
use Rattle.message.specs.declared.answer.IndexSpan.{IndexSpan}
use Rattle.message.proofs.RepositoryLaws.{repository_taken, repository_refused}
use Rattle.message.proofs.reading.read_index.Goals as goal

-- an answer with the lengths of what was read
same_span : {o t n x a b u v m y e : ℕ} → o ≡ t → x ≡ n → a ≡ b → u ≡ v → y ≡ m
    → ◌≡◌ {A = Result IndexSpan Refusal} (Ok (record { repository = span o n; files = span a u; count = m; end = e }))
    (Ok (record { repository = span t x; files = span b v; count = y; end = e }))
same_span o p q r t = rw (o, p, q, r, t) refl

pub returns-in_default : goal.returns-in_default
returns-in_default c =
    handed_up c.in_default.is c.refusal_of.ensures
    ∙ answered (index_answer c.args.edition) (first_refused (repository_refused c.args.edition c.read_repository-repository.ensures c.in_default.is))

pub slice_bounds-read_files-count : goal.slice_bounds-read_files-count
slice_bounds-read_files-count c =
    let w = (repository_taken c.args.edition c.read_repository-repository.ensures c.in-Ok.is).within c.requires in omega arith

pub slice_bounds-read_files-start : goal.slice_bounds-read_files-start
slice_bounds-read_files-start c =
    let w = (repository_taken c.args.edition c.read_repository-repository.ensures c.in-Ok.is).within c.requires in omega arith

pub overflow_add-result-2 : goal.overflow_add-result-2
overflow_add-result-2 c =
    let r = repository_taken c.args.edition c.read_repository-repository.ensures c.in-Ok.is in
    let w = ends (r.within c.requires) (next_pair {F = files files_limit} length c.args.s.now c.in-Ok.files_at c.read_files-files.ensures c.in-Ok-files.is).1 in
    omega arith

pub overflow_add-result : goal.overflow_add-result
overflow_add-result c =
    let r = repository_taken c.args.edition c.read_repository-repository.ensures c.in-Ok.is in
    let w = refused_within (r.within c.requires) (next_refused {F = files files_limit} (λ l next. (length l, next)) c.args.s.now c.in-Ok.files_at c.read_files-files.ensures (refusal_is c.in_default-files.is c.refusal_of-refusal.ensures)) in
    omega arith

pub returns-in_default-files : goal.returns-in_default-files
returns-in_default-files c =
    let r = repository_taken c.args.edition c.read_repository-repository.ensures c.in-Ok.is in
    answered (index_answer c.args.edition) (both_read r.reads
    (next_refused {F = files files_limit} (λ l next. (length l, next)) c.args.s.now c.in-Ok.files_at c.read_files-files.ensures (refusal_is c.in_default-files.is c.refusal_of-refusal.ensures)))

pub returns : goal.returns
returns c =
    let at = c.in-Ok.files_at in
    let r = repository_taken c.args.edition c.read_repository-repository.ensures c.in-Ok.is in
    let q = next_pair {F = files files_limit} length c.args.s.now at c.read_files-files.ensures c.in-Ok-files.is in
    let start : at ≡ past_repository c.args.edition r.value = r.ends in
    let used : c.in-Ok-files.used ≡ at + c.in-Ok-files.used - past_repository c.args.edition r.value = omega (arith, start) in
    same_span c.repository_start.ensures r.long start used q.2 ∙ answered (index_answer c.args.edition) (both_read r.reads q.1)
