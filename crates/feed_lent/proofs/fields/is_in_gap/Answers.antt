use lib.ListN.{get_or}
use mathlib.Core.Path.{sym, ap, ◌∙◌}
use Prim.Native.Nat.{◌+◌}
use Rattle.feed.specs.Sound.{most_gap}
use native.Mathlib.Omega.{arith}
use Rattle.feed.proofs.TestLaws.{has_room_lem}
use Rattle.feed_lent.proofs.fields.is_in_gap.Goals as goal

pub returns : goal.returns
returns c e = record {
  low = c.if-tag-lt17.false;
  high = c.if-tag-ge21.false;
  few = c.if-n-len.false;
  none = c.if-have-ne0.false;
  zero = c.if-value-ne0.false;
  room = omega (arith, has_room_lem (get_or c.args.words.now 4 0) ((get_or c.args.words.now 1 0) + c.most_gap-most.result) (sym c.room_for.ensures ∙ e), c.most_gap-most.ensures.0, ap most_gap c.gap_of.ensures);
}
