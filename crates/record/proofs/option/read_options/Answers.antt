-- So many options have been read, and end where the next begins.
use Rattle.std.proofs.Common.{◌∙◌, arith}
use Rattle.xdr.proofs.Answered.{handed_up, word_taken, word_refused, refusal_is}
use Rattle.xdr.proofs.Steps.{answered, ends, refused_within}
use Rattle.xdr.proofs.Runs.{progress_none, progress_more, count_refused, element_refused}
use Rattle.record.specs.Answers.{option_span, array_answer}
use Rattle.record.specs.KeyValue.{key_value}
use Rattle.record.proofs.Arrays.{array_done, next_option, next_refused}
use Rattle.record.proofs.option.read_options.Goals as goal

pub returns-in_default : goal.returns-in_default
returns-in_default c = handed_up c.in_default.is c.refusal_of.ensures ∙ answered array_answer (count_refused (word_refused c.read_count-answer.ensures c.in_default.is))

pub loop-i-init : goal.loop-i-init
loop-i-init c = progress_none (ends (omega arith) (word_taken c.read_count-answer.ensures c.in-Ok.is)).1

pub overflow_add-result : goal.overflow_add-result
overflow_add-result c =
    let w = refused_within c.loop-i.invariant.room (next_refused {F = key_value} option_span c.args.s.now c.loop-i.next c.read_option-read.ensures (refusal_is c.in_default-read.is c.refusal_of-refusal.ensures)) in
    omega arith

pub returns-in_default-read : goal.returns-in_default-read
returns-in_default-read c =
    let p = c.loop-i.invariant in
    answered array_answer (element_refused (word_taken c.read_count-answer.ensures c.in-Ok.is) p.run (omega (arith, p.counted))
    (next_refused {F = key_value} option_span c.args.s.now c.loop-i.next c.read_option-read.ensures (refusal_is c.in_default-read.is c.refusal_of-refusal.ensures)))

pub overflow_add-next : goal.overflow_add-next
overflow_add-next c =
    let w = ends c.loop-i.invariant.room (next_option c.args.s.now c.loop-i.next c.read_option-read.ensures c.in-Ok-read.is).1 in
    omega arith

pub loop-i-preserved : goal.loop-i-preserved
loop-i-preserved c = progress_more c.loop-i.invariant (next_option c.args.s.now c.loop-i.next c.read_option-read.ensures c.in-Ok-read.is).1

pub returns : goal.returns
returns c = array_done (word_taken c.read_count-answer.ensures c.in-Ok.is) c.loop-i.invariant (omega arith)
