-- The data that was read, or refused.
use Rattle.std.specs.Prelude.{Ok}
use Prim.Native.Nat.{ℕ}
use mathlib.Core.Path.{sym, ap, ◌∙◌}
use Rattle.xdr.proofs.Answered.{handed_up, bytes_taken, bytes_refused}
use Rattle.xdr.proofs.Steps.{answered}
use Rattle.message.specs.Answers.{span, response_answer}
use Rattle.message.specs.declared.answer.Message.TheVariants as M
use Rattle.message.proofs.reading.read_response.Goals as goal

pub returns-in_default : goal.returns-in_default
returns-in_default c = handed_up c.in_default.is c.refusal_of.ensures ∙ answered (response_answer c.args.id) (bytes_refused c.read_bytes-data.ensures c.in_default.is)

pub returns : goal.returns
returns c =
    let q = bytes_taken c.read_bytes-data.ensures c.in-Ok.is in
    ap (λ (n : ℕ). Ok (M.Response c.args.id (record { «data» = span 8 n; end = c.in-Ok.end }))) (sym q.2)
    ∙ answered (response_answer c.args.id) q.1
