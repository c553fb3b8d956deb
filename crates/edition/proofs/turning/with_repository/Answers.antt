-- The Repository is checked, and goes between the header and the other fields.
use Rattle.xdr.proofs.BufferLaws.{FilledTo}
use Rattle.xdr.specs.Reading.{taken}
use Rattle.message.specs.Message.{repository}
use Rattle.std.proofs.Common.{◌≤◌}
use Rattle.xdr.proofs.Steps.{Reads}
use Prim.Native.Nat.{ℕ, ◌+◌, ◌-◌}
use mathlib.Core.List.{List, ◌++◌, append_assoc}
use mathlib.Core.Path.{◌≡◌, refl, ap, ◌∙◌}
use native.Mathlib.Omega.{arith}
use lib.ListN.{length, take, drop, length-append, length-drop}
use lib.Seq.{length-take-le, take_all}
use Rattle.xdr.specs.Buffer.{filled, put}
use Rattle.xdr.proofs.Answered.{bytes_taken, bytes_refused}
use Rattle.xdr.proofs.BufferLaws.{filled_none, put_next, opaque_next}
use Rattle.xdr.proofs.FillingLaws.{fills_refused, fills_short, fills_given}
use Rattle.xdr.proofs.Steps.{passed}
use Rattle.message.specs.declared.edition.Edition.TheVariants as E
use Rattle.message_write.specs.Writing.{repository_bytes}
use Rattle.message_write.proofs.Behind.{string_size, string_refused, string_taken}
use Rattle.edition.proofs.TurnLaws.{unfit_given, fit_given}
use Rattle.edition.proofs.turning.with_repository.Goals as goal

-- how many bytes a Repository takes that was checked
size : (r : List ℕ) {l : List ℕ} {n : ℕ} → Reads (repository E.New) (repository_bytes E.New r) 0 (taken l n) → (n ≡ length (repository_bytes E.New r)) × (length r ≤ 64) × (length (repository_bytes E.New r) ≤ 68)
size r h = let t = string_taken r (passed h) in (omega (arith, t.0, string_size r), t.1, omega (arith, t.1, string_size r))

-- how long the message is with it
turned-size : (m r : List ℕ) → 4 ≤ length m → length (take 4 m ++ (repository_bytes E.New r ++ drop 4 m)) ≡ length (repository_bytes E.New r) + length m
turned-size m r h =
    let R : List ℕ = repository_bytes E.New r in
    omega (arith, length-append (take 4 m) (R ++ drop 4 m), length-append R (drop 4 m), length-take-le 4 m h, length-drop 4 m)

pub overflow_add-result : goal.overflow_add-result
overflow_add-result c =
    let u = string_refused c.args.repository.now (bytes_refused c.check_text.ensures c.in-Err.is) in
    omega arith

pub returns-in-Err : goal.returns-in-Err
returns-in-Err c = fills_refused c.args.out.now (unfit_given c.args.m.now c.args.repository.now (bytes_refused c.check_text.ensures c.in-Err.is)) refl

pub overflow_add-n : goal.overflow_add-n
overflow_add-n c =
    let t = bytes_taken c.check_text.ensures c.in-Ok.is in
    let w = size c.args.repository.now t.1 in
    omega arith

pub returns-then-out-n : goal.returns-then-out-n
returns-then-out-n c =
    let t = bytes_taken c.check_text.ensures c.in-Ok.is in
    let w = size c.args.repository.now t.1 in
    fills_short c.args.out.now (fit_given c.args.m.now c.args.repository.now t.1) (omega (arith, turned-size c.args.m.now c.args.repository.now c.requires)) c.refused.ensures

pub overflow_add-size : goal.overflow_add-size
overflow_add-size c =
    let t = bytes_taken c.check_text.ensures c.in-Ok.is in
    let w = size c.args.repository.now t.1 in
    omega arith

pub returns : goal.returns
returns c =
    let t = bytes_taken c.check_text.ensures c.in-Ok.is in
    let w = size c.args.repository.now t.1 in
    let a = c.args in
    let rest = drop 4 a.m.now in
    let long = turned-size a.m.now a.repository.now c.requires in
    let four = length-take-le 4 a.m.now c.requires in
    let part : take (length a.m.now - 4) rest ≡ rest = take_all (length a.m.now - 4) rest (omega (arith, length-drop 4 a.m.now)) in
    let header = put_next (filled_none a.out.now) (take 4 a.m.now) four (omega arith) c.put_raw.ensures.1 in
    let behind = opaque_next header a.repository.now (omega (arith, w.1)) (omega arith) c.put_bytes.ensures.0 c.put_bytes.ensures.1 in
    let both : FilledTo a.out.now c.put_bytes.new.out (take 4 a.m.now ++ repository_bytes E.New a.repository.now) (4 + c.in-Ok.size) = record { fills = behind.fills; long = length-append (take 4 a.m.now) (repository_bytes E.New a.repository.now) ∙ omega (arith, four, w.0) } in
    fills_given a.out.now (fit_given a.m.now a.repository.now t.1) (omega arith) (omega (arith, w.0, long))
    ((put_next both rest (length-drop 4 a.m.now) (omega arith)
    (c.put_raw-2.ensures.1 ∙ ap (put c.put_bytes.new.out (4 + c.in-Ok.size)) part)).fills
    ∙ ap (filled a.out.now) (append_assoc (take 4 a.m.now) (repository_bytes E.New a.repository.now) rest))
