-- The files go right behind the Repository.
use Prim.Native.Nat.{ℕ, ◌+◌, ◌-◌}
use mathlib.Core.List.{List, ◌++◌, append_assoc}
use mathlib.Core.Path.{◌≡◌, sym, ap, ◌∙◌}
use native.Mathlib.Omega.{arith}
use lib.ListN.{length, take, drop, length-append}
use lib.Seq.{length-take-le}
use Rattle.xdr.specs.Format.{encode}
use Rattle.xdr.specs.Fields.{word}
use Rattle.xdr.specs.Buffer.{filled}
use Rattle.xdr.proofs.EncodedSize.{number_size}
use Rattle.xdr.proofs.BufferLaws.{put_next}
use Rattle.message_write.specs.Steps.{given_bytes}
use Rattle.message_write.proofs.BodyLaws.{take_behind}
use Rattle.message_write.proofs.write.store_index.Goals as goal

pub overflow_sub-n : goal.overflow_sub-n
overflow_sub-n c = omega (arith, (let a = c.args in let g : List ℕ = given_bytes a.edition a.repository.now in c.store_front-files_at.ensures.0 ∙ length-append (encode word a.head) g ∙ ap (λ (n : ℕ). n + length g) (number_size 4 a.head)), c.requires)

pub slice_bounds-put_raw-end : goal.slice_bounds-put_raw-end
slice_bounds-put_raw-end c = omega (arith, (let a = c.args in let g : List ℕ = given_bytes a.edition a.repository.now in c.store_front-files_at.ensures.0 ∙ length-append (encode word a.head) g ∙ ap (λ (n : ℕ). n + length g) (number_size 4 a.head)), c.requires)

pub returns : goal.returns
returns c =
    let a = c.args in
    let at : ℕ = c.store_front-files_at.result in
    let u : ℕ = a.n - at in
    let size = (let a = c.args in let g : List ℕ = given_bytes a.edition a.repository.now in c.store_front-files_at.ensures.0 ∙ length-append (encode word a.head) g ∙ ap (λ (n : ℕ). n + length g) (number_size 4 a.head)) in
    let part = length-take-le (u - 0) (drop 0 a.files.now) (omega (arith, size, c.requires)) in
    let long : length (encode word c.args.head ++ given_bytes c.args.edition c.args.repository.now) ≡ at = sym c.store_front-files_at.ensures.0 in
    let used : u - 0 ≡ u = omega arith in
    (put_next (record { fills = c.store_front-files_at.ensures.1; long = sym c.store_front-files_at.ensures.0 }) (take (u - 0) (drop 0 a.files.now)) part (omega (arith, size, c.requires)) c.put_raw.ensures.1).fills
    ∙ ap (filled a.out.now) (ap (λ (i : ℕ). (encode word c.args.head ++ given_bytes c.args.edition c.args.repository.now) ++ take i a.files.now) used
    ∙ sym (take_behind (encode word c.args.head ++ given_bytes c.args.edition c.args.repository.now) a.files.now a.n u (omega (arith, long, size, c.requires)))
    ∙ ap (take a.n) (append_assoc (encode word a.head) (given_bytes a.edition a.repository.now) a.files.now))
