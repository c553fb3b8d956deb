-- The repository stands right behind the header, and the files behind it.
use Rattle.xdr.proofs.Answered.{refusal_is}
use Rattle.std.proofs.Common.{ℕ, ◌+◌, List, ◌++◌, refl, ap, ◌∙◌, arith}
use Rattle.std.specs.Prelude.{Err}
use Rattle.xdr.specs.Reading.{Reading, shifted}
use Rattle.xdr.proofs.Steps.{Reads, first_refused, both_read, ends, refused_within}
use Rattle.record.specs.File.{File, files}
use Rattle.record.proofs.Answered.{array_taken, array_refused}
use Rattle.message.specs.Limits.{files_limit}
use Rattle.message.specs.declared.edition.Edition.{Edition}
use Rattle.message_write.specs.Steps.{given_bytes}
use Rattle.message_write.proofs.Behind.{behind, checks, last_at}
use Rattle.message_write.proofs.RepositoryLaws.{Checked, repository_checked, repository_unfit, repository_there}
use Rattle.message_write.proofs.check.check_index.Goals as goal

-- the files stand behind the repository as they are alone
files-there : {e : Edition} {r : List ℕ} {size : ℕ} (f : List ℕ) → Checked e r size → {x : Reading (List File)} → Reads (files files_limit) f 0 x
    → Reads (files files_limit) (behind (given_bytes e r ++ f)) (4 + size) (shifted (4 + size) x)
files-there {e} {r} f k h = last_at (behind (given_bytes e r)) f refl (omega (arith, k.ends)) h

pub moved-requires : goal.moved-requires
moved-requires c =
    let u = (repository_unfit c.args.edition c.args.repository.now c.check_repository-text.ensures (refusal_is c.in_default.is c.refusal_of.ensures)).1 in
    omega arith

pub returns-in_default : goal.returns-in_default
returns-in_default c =
    let u = (repository_unfit c.args.edition c.args.repository.now c.check_repository-text.ensures (refusal_is c.in_default.is c.refusal_of.ensures)).0 in
    ap Err c.moved.ensures ∙ checks (first_refused (repository_there c.args.edition c.args.repository.now c.args.files.now u))

pub overflow_add-result : goal.overflow_add-result
overflow_add-result c =
    let f = repository_checked c.args.edition c.args.repository.now c.check_repository-text.ensures c.in-Ok.is in
    let w = f.ends in
    let z = f.small in
    omega arith

pub overflow_add-size : goal.overflow_add-size
overflow_add-size c =
    let f = repository_checked c.args.edition c.args.repository.now c.check_repository-text.ensures c.in-Ok.is in
    let w = f.ends in
    let z = f.small in
    omega arith

pub overflow_add-result-2 : goal.overflow_add-result-2
overflow_add-result-2 c =
    let f = repository_checked c.args.edition c.args.repository.now c.check_repository-text.ensures c.in-Ok.is in
    let w = f.ends in
    let z = f.small in
    let v = ends (omega arith) (array_taken c.read_files-array.ensures c.in-Ok-array.is).1 in
    omega arith

pub moved-requires-in_default-array : goal.moved-requires-in_default-array
moved-requires-in_default-array c =
    let f = repository_checked c.args.edition c.args.repository.now c.check_repository-text.ensures c.in-Ok.is in
    let w = f.ends in
    let z = f.small in
    let v = refused_within (omega arith) (array_refused c.read_files-array.ensures (refusal_is c.in_default-array.is c.refusal_of-in_default-array.ensures)) in
    omega arith

pub returns : goal.returns
returns c =
    let f = repository_checked c.args.edition c.args.repository.now c.check_repository-text.ensures c.in-Ok.is in
    checks (both_read (repository_there c.args.edition c.args.repository.now c.args.files.now f.reads) (files-there c.args.files.now f (array_taken c.read_files-array.ensures c.in-Ok-array.is).1))

pub returns-in_default-array : goal.returns-in_default-array
returns-in_default-array c =
    let f = repository_checked c.args.edition c.args.repository.now c.check_repository-text.ensures c.in-Ok.is in
    ap Err c.moved-in_default-array.ensures
    ∙ checks (both_read (repository_there c.args.edition c.args.repository.now c.args.files.now f.reads) (files-there c.args.files.now f (array_refused c.read_files-array.ensures (refusal_is c.in_default-array.is c.refusal_of-in_default-array.ensures))))
