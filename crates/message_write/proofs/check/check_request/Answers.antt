-- Each field stands behind those before it.
use Rattle.std.proofs.Common.{◌≡◌, ℕ, ◌+◌, List, ◌++◌, length, refl, sym, ap, ◌∙◌, append_assoc, length-append, arith}
use Rattle.std.specs.Prelude.{Err}
use borrow.Author.Tests.{eqb-true}
use Rattle.xdr.specs.Reading.{Reading, taken, shifted}
use Rattle.xdr.specs.Pad.{padded}
use Rattle.xdr.specs.Format.{bytes, encode}
use Rattle.xdr.specs.Fields.{word, hyper}
use Rattle.xdr.proofs.Answered.{bytes_taken, bytes_refused, refusal_is}
use Rattle.xdr.proofs.EncodedSize.{number_size}
use Rattle.xdr.proofs.Steps.{Reads, first_refused, both_read, via_refused, via_taken, checked_failed, checked_passed}
use Rattle.xdr.proofs.Told.{Wide, encoded_at, number_alone, told_same}
use Rattle.record.specs.Block.{hash}
use Rattle.record.specs.File.{name}
use Rattle.record.proofs.NameSteps.{name_string}
use Rattle.message.specs.declared.edition.Edition.{Edition}
use Rattle.message_write.specs.Writing.{request_bytes}
use Rattle.message_write.specs.Steps.{repository_of, given_bytes}
use Rattle.message_write.proofs.Behind.{behind, checks, last_at, string_size, string_refused, string_taken}
use Rattle.message_write.proofs.RepositoryLaws.{Checked, repository_checked, repository_unfit, repository_there}
use Rattle.message_write.proofs.check.check_request.Goals as goal

-- the fields of a Request, and the size that its Repository was checked to have
module _ (e : Edition) (r n : List ℕ) (size : ℕ) (h : List ℕ) {taken_by : ℕ} (fit : Checked e r taken_by) where
  -- the bytes up to the name, and the name behind them

  abbrev to-name : List ℕ
  to-name = behind (given_bytes e r)

  name_there : (t : List ℕ) {x : Reading (List ℕ)} → Reads name (encode (bytes word) n) 0 x
      → Reads name (to-name ++ (encode (bytes word) n ++ t)) (4 + taken_by) (shifted (4 + taken_by) x)
  unfolding encode Wide
  name_there t w = encoded_at {F = name} n to-name t (omega arith) refl (omega (arith, fit.ends)) w

  module _ {name_size : ℕ} (long : name_size ≡ 4 + padded (length n)) (o : ℕ) where
    -- those up to the offset, and the whole message

    abbrev at : ℕ
    at = 4 + taken_by + name_size

    abbrev to-offset : List ℕ
    to-offset = to-name ++ encode (bytes word) n

    long-offset : length to-offset ≡ at
    long-offset = length-append to-name (encode (bytes word) n) ∙ omega (arith, fit.ends, string_size n)

    abbrev whole : List ℕ
    whole = behind (request_bytes e (repository_of e r) n o size h)

    abbrev the-hash : List ℕ
    the-hash = encode (bytes word) h

    offset_there : Reads hyper whole at (taken o (at + 8))
    unfolding Wide
    offset_there =
        encoded_at {F = hyper} o to-offset (encode word size ++ the-hash) (omega arith)
        (sym (append_assoc to-name (encode (bytes word) n) (encode hyper o ++ (encode word size ++ the-hash)))) long-offset (number_alone 7 o)

    whole_is : whole ≡ (to-offset ++ encode hyper o) ++ (encode word size ++ the-hash)
    whole_is =
        sym (append_assoc to-name (encode (bytes word) n) (encode hyper o ++ (encode word size ++ the-hash)))
        ∙ sym (append_assoc to-offset (encode hyper o) (encode word size ++ the-hash))

    long-length : length (to-offset ++ encode hyper o) ≡ at + 8
    long-length = length-append to-offset (encode hyper o) ∙ omega (arith, long-offset, number_size 8 o)

    length-there : Reads word whole (at + 8) (taken size (at + 8 + 4))
    unfolding Wide
    length-there = encoded_at {F = word} size (to-offset ++ encode hyper o) the-hash (omega arith) whole_is long-length (number_alone 3 size)

    -- the hash behind all the rest
    hash-there : {x : Reading (List ℕ)} → Reads hash the-hash 0 x → Reads hash whole (at + 8 + 4) (shifted (at + 8 + 4) x)
    hash-there w =
        last_at ((to-offset ++ encode hyper o) ++ encode word size) the-hash (whole_is ∙ sym (append_assoc (to-offset ++ encode hyper o) (encode word size) the-hash))
        (length-append (to-offset ++ encode hyper o) (encode word size) ∙ omega (arith, long-length, number_size 4 size)) w

pub moved-requires : goal.moved-requires
moved-requires c =
    let u = (repository_unfit c.args.edition c.args.repository.now c.check_repository-first.ensures (refusal_is c.in_default.is c.refusal_of.ensures)).1 in omega arith

pub returns-in_default : goal.returns-in_default
returns-in_default c = λ o.
    let u = (repository_unfit c.args.edition c.args.repository.now c.check_repository-first.ensures (refusal_is c.in_default.is c.refusal_of.ensures)).0 in
    ap Err c.moved.ensures ∙ checks (via_refused (first_refused (repository_there c.args.edition c.args.repository.now _ u)))

pub overflow_add-name_at : goal.overflow_add-name_at
overflow_add-name_at c =
    let f = repository_checked c.args.edition c.args.repository.now c.check_repository-first.ensures c.in-Ok.is in
    let w = f.ends in
    let z = f.small in
    omega arith

pub overflow_add-size_at : goal.overflow_add-size_at
overflow_add-size_at c =
    let f = repository_checked c.args.edition c.args.repository.now c.check_repository-first.ensures c.in-Ok.is in
    let w = f.ends in
    let z = f.small in
    let n = bytes_taken c.check_name-second.ensures c.in-Ok-second.is in
    let v = string_taken c.args.name.now (name_string n.1) in
    omega arith

pub overflow_add-size_at-2 : goal.overflow_add-size_at-2
overflow_add-size_at-2 c =
    let f = repository_checked c.args.edition c.args.repository.now c.check_repository-first.ensures c.in-Ok.is in
    let w = f.ends in
    let z = f.small in
    let n = bytes_taken c.check_name-second.ensures c.in-Ok-second.is in
    let v = string_taken c.args.name.now (name_string n.1) in
    omega arith

pub moved-requires-in_default-second : goal.moved-requires-in_default-second
moved-requires-in_default-second c =
    let f = repository_checked c.args.edition c.args.repository.now c.check_repository-first.ensures c.in-Ok.is in
    let w = f.ends in
    let z = f.small in
    let v = string_refused c.args.name.now (bytes_refused c.check_name-second.ensures (refusal_is c.in_default-second.is c.refusal_of-in_default-second.ensures)) in
    omega arith

pub returns-in_default-second : goal.returns-in_default-second
returns-in_default-second c = λ o.
    let f = repository_checked c.args.edition c.args.repository.now c.check_repository-first.ensures c.in-Ok.is in
    ap Err c.moved-in_default-second.ensures
    ∙ checks (via_refused (both_read (repository_there c.args.edition c.args.repository.now _ f.reads) (first_refused
    (name_there c.args.edition c.args.repository.now c.args.name.now c.args.size c.args.hash.now f _ (bytes_refused c.check_name-second.ensures (refusal_is c.in_default-second.is c.refusal_of-in_default-second.ensures))))))

pub returns-then-not-is_size : goal.returns-then-not-is_size
returns-then-not-is_size c = λ o.
    let f = repository_checked c.args.edition c.args.repository.now c.check_repository-first.ensures c.in-Ok.is in
    let n = bytes_taken c.check_name-second.ensures c.in-Ok-second.is in
    let v = string_taken c.args.name.now (name_string n.1) in
    checks (via_refused (both_read (repository_there c.args.edition c.args.repository.now _ f.reads) (both_read (name_there c.args.edition c.args.repository.now c.args.name.now c.args.size c.args.hash.now f _ n.1) (both_read (offset_there c.args.edition c.args.repository.now c.args.name.now c.args.size c.args.hash.now f v.0 o)
    (first_refused (checked_failed (length-there c.args.edition c.args.repository.now c.args.name.now c.args.size c.args.hash.now f v.0 o) (sym c.is_size.ensures ∙ c.if-not-is_size.true)))))))

pub overflow_add-hash_at : goal.overflow_add-hash_at
overflow_add-hash_at c =
    let f = repository_checked c.args.edition c.args.repository.now c.check_repository-first.ensures c.in-Ok.is in
    let w = f.ends in
    let z = f.small in
    let n = bytes_taken c.check_name-second.ensures c.in-Ok-second.is in
    let v = string_taken c.args.name.now (name_string n.1) in
    omega arith

pub overflow_add-result : goal.overflow_add-result
overflow_add-result c =
    let f = repository_checked c.args.edition c.args.repository.now c.check_repository-first.ensures c.in-Ok.is in
    let w = f.ends in
    let z = f.small in
    let n = bytes_taken c.check_name-second.ensures c.in-Ok-second.is in
    let v = string_taken c.args.name.now (name_string n.1) in
    let u = told_same c.args.hash.now (bytes_taken c.check_hash-third.ensures c.in-Ok-third.is).1 in
    omega (arith, u.1, eqb-true (length c.args.hash.now) 32 u.2)

pub moved-requires-in_default-third : goal.moved-requires-in_default-third
moved-requires-in_default-third c =
    let f = repository_checked c.args.edition c.args.repository.now c.check_repository-first.ensures c.in-Ok.is in
    let w = f.ends in
    let z = f.small in
    let n = bytes_taken c.check_name-second.ensures c.in-Ok-second.is in
    let v = string_taken c.args.name.now (name_string n.1) in
    let u = string_refused c.args.hash.now (bytes_refused c.check_hash-third.ensures (refusal_is c.in_default-third.is c.refusal_of-in_default-third.ensures)) in
    omega arith

pub returns-in_default-third : goal.returns-in_default-third
returns-in_default-third c = λ o.
    let f = repository_checked c.args.edition c.args.repository.now c.check_repository-first.ensures c.in-Ok.is in
    let n = bytes_taken c.check_name-second.ensures c.in-Ok-second.is in
    let v = string_taken c.args.name.now (name_string n.1) in
    ap Err c.moved-in_default-third.ensures
    ∙ checks (via_refused (both_read (repository_there c.args.edition c.args.repository.now _ f.reads) (both_read (name_there c.args.edition c.args.repository.now c.args.name.now c.args.size c.args.hash.now f _ n.1) (both_read (offset_there c.args.edition c.args.repository.now c.args.name.now c.args.size c.args.hash.now f v.0 o)
    (both_read (checked_passed (length-there c.args.edition c.args.repository.now c.args.name.now c.args.size c.args.hash.now f v.0 o) (sym c.is_size.ensures ∙ c.if-not-is_size.false))
    (hash-there c.args.edition c.args.repository.now c.args.name.now c.args.size c.args.hash.now f v.0 o (bytes_refused c.check_hash-third.ensures (refusal_is c.in_default-third.is c.refusal_of-in_default-third.ensures))))))))

pub returns : goal.returns
returns c = λ o.
    let f = repository_checked c.args.edition c.args.repository.now c.check_repository-first.ensures c.in-Ok.is in
    let n = bytes_taken c.check_name-second.ensures c.in-Ok-second.is in
    let v = string_taken c.args.name.now (name_string n.1) in
    checks (via_taken (both_read (repository_there c.args.edition c.args.repository.now _ f.reads) (both_read (name_there c.args.edition c.args.repository.now c.args.name.now c.args.size c.args.hash.now f _ n.1) (both_read (offset_there c.args.edition c.args.repository.now c.args.name.now c.args.size c.args.hash.now f v.0 o)
    (both_read (checked_passed (length-there c.args.edition c.args.repository.now c.args.name.now c.args.size c.args.hash.now f v.0 o) (sym c.is_size.ensures ∙ c.if-not-is_size.false))
    (hash-there c.args.edition c.args.repository.now c.args.name.now c.args.size c.args.hash.now f v.0 o (bytes_taken c.check_hash-third.ensures c.in-Ok-third.is).1))))))
