use native.Mathlib.Omega.{arith}
use Rattle.feed_lent.proofs.feeding.feed_words.Goals as goal

pub feed_on-requires : goal.feed_on-requires
feed_on-requires c = (c.is_under_way.ensures c.if-is_under_way.true, omega (arith, c.if-run-eq0.false))

pub feed_first-requires : goal.feed_first-requires
feed_first-requires c = c.is_unread.ensures c.if-is_unread.true
