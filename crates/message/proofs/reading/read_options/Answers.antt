-- The array is read where its part begins.
use Rattle.xdr.proofs.Answered.{refusal_is}
use Rattle.std.proofs.Common.{◌≡◌, ℕ, ◌+◌, ◌-◌, length, refl, ◌∙◌, arith}
use Rattle.std.specs.Prelude.{Ok}
use Rattle.std.specs.declared.result.Result.{Result}
use Rattle.xdr.specs.declared.answer.Refusal.{Refusal}
use Rattle.xdr.proofs.Steps.{answered, ends, refused_within}
use Rattle.record.specs.KeyValue.{options}
use Rattle.record.proofs.Arrays.{next_pair, next_refused}
use Rattle.message.specs.Limits.{options_limit}
use Rattle.message.specs.Answers.{span, options_answer}
use Rattle.message.specs.declared.answer.Message.{Message}
use Rattle.message.specs.declared.answer.Message.TheVariants as M
use Rattle.message.proofs.reading.read_options.Goals as goal

-- an answer with the lengths of what was read
same_span : {id u v n m e : ℕ} → u ≡ v → m ≡ n
    → ◌≡◌ {A = Result Message Refusal} (Ok (M.Options id (record { options = span 4 u; count = n; end = e })))
    (Ok (M.Options id (record { options = span 4 v; count = m; end = e })))
same_span p q = rw (p, q) refl

pub overflow_add-result : goal.overflow_add-result
overflow_add-result c =
    let w = refused_within c.requires (next_refused {F = options options_limit} (λ l next. (length l, next)) c.args.s.now 4 c.read_options-options.ensures (refusal_is c.in_default.is c.refusal_of-refusal.ensures)) in omega arith

pub returns-in_default : goal.returns-in_default
returns-in_default c = answered (options_answer c.args.id) (next_refused {F = options options_limit} (λ l next. (length l, next)) c.args.s.now 4 c.read_options-options.ensures (refusal_is c.in_default.is c.refusal_of-refusal.ensures))

pub overflow_add-span : goal.overflow_add-span
overflow_add-span c =
    let w = ends c.requires (next_pair {F = options options_limit} length c.args.s.now 4 c.read_options-options.ensures c.in-Ok.is).1 in omega arith

pub returns : goal.returns
returns c =
    let q = next_pair {F = options options_limit} length c.args.s.now 4 c.read_options-options.ensures c.in-Ok.is in
    let used : c.in-Ok.used ≡ 4 + c.in-Ok.used - 4 = omega arith in
    same_span used q.2 ∙ answered (options_answer c.args.id) q.1
