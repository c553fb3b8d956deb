use native.Mathlib.Omega.{arith}
use Rattle.feed.proofs.CodeLaws.{small_word}
use Rattle.feed_lent.proofs.InPlaceLaws.{fed_gap, fed_byte, fed_as}
use Rattle.feed_lent.proofs.feeding.feed_on.Goals as goal

pub overflow_cast-len : goal.overflow_cast-len
overflow_cast-len c = let h = c.is_in_gap.ensures c.if-is_in_gap.true in omega (arith, h.few, h.room)

pub passed_over-requires : goal.passed_over-requires
passed_over-requires c = let h = c.is_in_gap.ensures c.if-is_in_gap.true in (omega (arith, h.few), omega (arith, h.few, h.room))

pub returns-then-is_in_gap : goal.returns-then-is_in_gap
returns-then-is_in_gap c = let a = c.args in fed_as c.waiting.ensures c.passed_over.ensures (fed_gap a.words.now a.run.now c.requires.0 c.requires.1 (c.is_in_gap.ensures c.if-is_in_gap.true))

pub one_more-requires : goal.one_more-requires
one_more-requires c = let h = c.is_in_word.ensures c.if-is_in_word.true in (h.few, small_word _ _ (omega (arith, h.few)) h.number)

pub returns-then-is_in_word : goal.returns-then-is_in_word
returns-then-is_in_word c = let a = c.args in fed_as c.waiting-then-is_in_word.ensures c.one_more.ensures (fed_byte a.words.now a.run.now c.requires.0 (c.is_in_word.ensures c.if-is_in_word.true) (c.type_inv.run 0).fits)

pub feed_string-requires : goal.feed_string-requires
feed_string-requires c = (c.requires.0, c.is_in_string.ensures c.if-is_in_string.true, c.requires.1)
