-- Each return is one of the laws of a block's place.
use Rattle.std.proofs.Common.{◌+◌, ◌∙◌, arith}
use Rattle.record.proofs.OutlineLaws.{word_kept, word_lost, block_short, block_whole}
use Rattle.record.proofs.outline.block_at.Goals as goal

pub returns-then-s-first : goal.returns-then-s-first
returns-then-s-first c = block_short c.args.s.now c.args.first c.args.i (omega arith)

pub returns-then-s-first-2 : goal.returns-then-s-first-2
returns-then-s-first-2 c = block_short c.args.s.now c.args.first c.args.i (omega arith)

pub returns-in_err-size : goal.returns-in_err-size
returns-in_err-size c =
    let h = (word_lost c.read_word.ensures c.ok.ensures.value c.in_err-size.was).cut in
    c.from_residual.ensures ∙ block_short c.args.s.now c.args.first c.args.i (omega (arith, h))

pub overflow_add-hash : goal.overflow_add-hash
overflow_add-hash c =
    let w = word_kept c.read_word.ensures c.ok.ensures.value c.in_ok-size.was in
    omega (arith, w.ends, w.room, c.if-s-first-2.false)

pub returns : goal.returns
returns c =
    let w = word_kept c.read_word.ensures c.ok.ensures.value c.in_ok-size.was in
    block_whole c.args.s.now c.args.first c.args.i c.in_ok-size.size (c.in_ok-size.next + 4) w.is (omega (arith, w.ends)) (omega (arith, c.if-s-first-2.false))
