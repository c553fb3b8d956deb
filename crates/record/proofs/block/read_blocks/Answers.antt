-- So many blocks have been read, and end where the next begins.
use Rattle.std.proofs.Common.{◌∙◌, arith}
use Rattle.xdr.proofs.Answered.{handed_up, word_taken, word_refused, refusal_is}
use Rattle.xdr.proofs.Steps.{answered, ends, refused_within}
use Rattle.xdr.proofs.Runs.{progress_more, count_refused, element_refused}
use Rattle.record.specs.Answers.{array_answer}
use Rattle.record.specs.Block.{block}
use Rattle.record.proofs.Arrays.{array_done, next_pair, next_refused}
use Rattle.record.proofs.HeadLaws.{sound_progress}
use Rattle.record.proofs.block.read_blocks.Goals as goal

pub returns-in_default : goal.returns-in_default
returns-in_default c = handed_up c.in_default.is c.refusal_of.ensures ∙ answered array_answer (count_refused (word_refused c.read_block_count-answer.ensures c.in_default.is))

pub sound_blocks-sound-requires : goal.sound_blocks-sound-requires
sound_blocks-sound-requires c = (ends (omega arith) (word_taken c.read_block_count-answer.ensures c.in-Ok.is)).1

pub overflow_mul-next : goal.overflow_mul-next
overflow_mul-next c = omega (arith, c.sound_blocks-sound.ensures.1.0)

pub overflow_add-next : goal.overflow_add-next
overflow_add-next c = omega (arith, c.sound_blocks-sound.ensures.1.0)

pub loop-i-init : goal.loop-i-init
loop-i-init c =
    sound_progress c.args.s.now (λ i. (c.type_inv.s i).fits) c.in-Ok.first c.sound_blocks-sound.result c.sound_blocks-sound.ensures.1

pub overflow_add-result : goal.overflow_add-result
overflow_add-result c =
    let p = c.loop-i.invariant in
    let w = refused_within p.room (next_refused {F = block} (λ b next. (b.size, next)) c.args.s.now c.loop-i.next c.read_block-read.ensures (refusal_is c.in_default-read.is c.refusal_of-refusal.ensures)) in
    omega arith

pub returns-in_default-read : goal.returns-in_default-read
returns-in_default-read c =
    let p = c.loop-i.invariant in
    answered array_answer (element_refused (word_taken c.read_block_count-answer.ensures c.in-Ok.is) p.run (omega (arith, p.counted))
    (next_refused {F = block} (λ b next. (b.size, next)) c.args.s.now c.loop-i.next c.read_block-read.ensures (refusal_is c.in_default-read.is c.refusal_of-refusal.ensures)))

pub overflow_add-next-in-loop-i : goal.overflow_add-next-in-loop-i
overflow_add-next-in-loop-i c =
    let w = ends c.loop-i.invariant.room (next_pair {F = block} (λ b. b.size) c.args.s.now c.loop-i.next c.read_block-read.ensures c.in-Ok-read.is).1 in
    omega arith

pub loop-i-preserved : goal.loop-i-preserved
loop-i-preserved c = progress_more c.loop-i.invariant (next_pair {F = block} (λ b. b.size) c.args.s.now c.loop-i.next c.read_block-read.ensures c.in-Ok-read.is).1

pub returns : goal.returns
returns c = array_done (word_taken c.read_block_count-answer.ensures c.in-Ok.is) c.loop-i.invariant (omega (arith, c.sound_blocks-sound.ensures.0))
