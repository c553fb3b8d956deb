-- What the check takes of the array goes behind the header.
use Rattle.xdr.proofs.Answered.{handed_on}
use Prim.Native.Nat.{ℕ, ◌-◌}
use mathlib.Core.List.{◌++◌}
use mathlib.Core.Path.{◌≡◌, refl, sym, ap, ◌∙◌}
use native.Mathlib.Omega.{arith}
use lib.ListN.{length, take, drop}
use lib.Seq.{length-take-le}
use Rattle.xdr.specs.Format.{encode}
use Rattle.xdr.specs.Fields.{word}
use Rattle.xdr.specs.Buffer.{filled}
use Rattle.xdr.proofs.EncodedSize.{number_size}
use Rattle.xdr.proofs.FillingLaws.{fills_same}
use Rattle.record.specs.KeyValue.{options}
use Rattle.message.specs.Limits.{options_limit}
use Rattle.message.specs.declared.edition.Edition.TheVariants as E
use Rattle.message_write.proofs.WritingLaws.{admits, not_admitted, body_filled, by_body}
use Rattle.message_write.proofs.BodyLaws.{options_parts, take_behind}
use Rattle.message_write.proofs.write.write_options.Goals as goal

pub returns-in_err-n : goal.returns-in_err-n
returns-in_err-n c =
    let a = c.args in
    rw (handed_on c.from_residual.result c.from_residual.ensures.1) (fills_same a.out.now (by_body E.New a.id 7 a.options.now (omega arith) (omega arith))
    (not_admitted (options options_limit) a.id 7 a.options.now (length a.out.now) c.admitted.ensures c.check_options.ensures a.out.now refl c.in_err-n.was))

pub overflow_sub-used : goal.overflow_sub-used
overflow_sub-used c = (options_parts c.args.options.now (let a = c.args in admits (options options_limit) a.id 7 a.options.now (length a.out.now) c.admitted.ensures c.check_options.ensures c.in_ok-n.was).reads).0

pub slice_bounds-store_raw-end : goal.slice_bounds-store_raw-end
slice_bounds-store_raw-end c = let w = (options_parts c.args.options.now (let a = c.args in admits (options options_limit) a.id 7 a.options.now (length a.out.now) c.admitted.ensures c.check_options.ensures c.in_ok-n.was).reads) in omega arith

pub store_raw-requires : goal.store_raw-requires
store_raw-requires c =
    let w = (options_parts c.args.options.now (let a = c.args in admits (options options_limit) a.id 7 a.options.now (length a.out.now) c.admitted.ensures c.check_options.ensures c.in_ok-n.was).reads) in
    let part = length-take-le (c.in_ok-n.n - 4 - 0) (drop 0 c.args.options.now) (omega arith) in
    omega (arith, part, (let a = c.args in admits (options options_limit) a.id 7 a.options.now (length a.out.now) c.admitted.ensures c.check_options.ensures c.in_ok-n.was).room)

pub returns : goal.returns
returns c =
    let a = c.args in
    let head = c.header_of.result in
    let n = c.in_ok-n.n in
    let w = (options_parts c.args.options.now (let a = c.args in admits (options options_limit) a.id 7 a.options.now (length a.out.now) c.admitted.ensures c.check_options.ensures c.in_ok-n.was).reads) in
    let used : n - 4 - 0 ≡ n - 4 = omega arith in
    fills_same a.out.now (by_body E.New a.id 7 a.options.now (omega arith) (omega arith))
    (body_filled a.id 7 a.options.now a.out.now (let a = c.args in admits (options options_limit) a.id 7 a.options.now (length a.out.now) c.admitted.ensures c.check_options.ensures c.in_ok-n.was) (omega arith) c.header_of.ensures
    (c.store_raw.ensures
    ∙ ap (λ (u : ℕ). filled a.out.now (encode word head ++ take u a.options.now)) used
    ∙ ap (filled a.out.now) (sym (take_behind (encode word head) a.options.now n (n - 4) (omega (arith, number_size 4 head))))))
