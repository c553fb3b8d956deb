-- The data stand right behind the header.
use Rattle.std.specs.Prelude.{Err}
use mathlib.Core.List.{[], ◌∷◌}
use mathlib.Core.Path.{refl, ap, ◌∙◌}
use native.Mathlib.Omega.{arith}
use Rattle.xdr.specs.Format.{bytes, encode}
use Rattle.xdr.specs.Fields.{word}
use Rattle.xdr.proofs.Answered.{bytes_taken, bytes_refused, refusal_is}
use Rattle.message_write.proofs.Behind.{checks, last_at, string_refused, string_taken}
use Rattle.message_write.proofs.check.check_response.Goals as goal

pub moved-requires : goal.moved-requires
moved-requires c =
    let w = string_refused c.args.«data».now (bytes_refused c.check_bytes-opaque.ensures (refusal_is c.in_default.is c.refusal_of.ensures)) in omega arith

pub returns-in_default : goal.returns-in_default
returns-in_default c =
    ap Err c.moved.ensures
    ∙ checks (last_at (0 ∷ 0 ∷ 0 ∷ 0 ∷ []) (encode (bytes word) c.args.«data».now) refl refl (bytes_refused c.check_bytes-opaque.ensures (refusal_is c.in_default.is c.refusal_of.ensures)))

pub overflow_add-result : goal.overflow_add-result
overflow_add-result c =
    let w = string_taken c.args.«data».now (bytes_taken c.check_bytes-opaque.ensures c.in-Ok.is).1 in omega arith

pub returns : goal.returns
returns c = checks (last_at (0 ∷ 0 ∷ 0 ∷ 0 ∷ []) (encode (bytes word) c.args.«data».now) refl refl (bytes_taken c.check_bytes-opaque.ensures c.in-Ok.is).1)
