-- The array stands right behind the header.
use Rattle.xdr.proofs.Answered.{refusal_is}
use Rattle.std.proofs.Common.{[], ◌∷◌, refl, ap, ◌∙◌, arith}
use Rattle.std.specs.Prelude.{Err}
use Rattle.xdr.proofs.Steps.{ends, refused_within}
use Rattle.record.proofs.Answered.{array_taken, array_refused}
use Rattle.message_write.proofs.Behind.{checks, last_at}
use Rattle.message_write.proofs.check.check_options.Goals as goal

pub moved-requires : goal.moved-requires
moved-requires c =
    let w = refused_within (omega arith) (array_refused c.read_options-array.ensures (refusal_is c.in_default.is c.refusal_of.ensures)) in omega arith

pub returns-in_default : goal.returns-in_default
returns-in_default c = ap Err c.moved.ensures ∙ checks (last_at (0 ∷ 0 ∷ 0 ∷ 0 ∷ []) c.args.options.now refl refl (array_refused c.read_options-array.ensures (refusal_is c.in_default.is c.refusal_of.ensures)))

pub overflow_add-result : goal.overflow_add-result
overflow_add-result c =
    let w = ends (omega arith) (array_taken c.read_options-array.ensures c.in-Ok.is).1 in omega arith

pub returns : goal.returns
returns c = checks (last_at (0 ∷ 0 ∷ 0 ∷ 0 ∷ []) c.args.options.now refl refl (array_taken c.read_options-array.ensures c.in-Ok.is).1)
