-- Each return is one of the laws of a string's outline.
use Rattle.std.proofs.Common.{refl, ◌∙◌, arith}
use Rattle.record.specs.Outline.{word_at}
use Rattle.record.proofs.OutlineLaws.{word_kept, word_lost}
use Rattle.record.proofs.StringLaws.{string_short, string_whole}
use Rattle.record.proofs.string_outline.string_at.Goals as goal

pub returns-in_err-len : goal.returns-in_err-len
returns-in_err-len c =
    let s = c.args.s.now in
    let h = (word_lost c.read_word.ensures c.ok.ensures.value c.in_err-len.was).cut in
    c.from_residual.ensures ∙ string_short s c.args.at (word_at s c.args.at) refl (omega (arith, h))

pub overflow_sub-s : goal.overflow_sub-s
overflow_sub-s c = (word_kept c.read_word.ensures c.ok.ensures.value c.in_ok-len.was).room

pub returns-then-s-start : goal.returns-then-s-start
returns-then-s-start c =
    let l = word_kept c.read_word.ensures c.ok.ensures.value c.in_ok-len.was in
    string_short c.args.s.now c.args.at c.in_ok-len.len l.is (omega (arith, l.ends, l.room))

pub returns : goal.returns
returns c =
    let l = word_kept c.read_word.ensures c.ok.ensures.value c.in_ok-len.was in
    string_whole c.args.s.now c.args.at c.in_ok-len.len _ l.is (omega (arith, l.ends)) (omega (arith, l.room))
