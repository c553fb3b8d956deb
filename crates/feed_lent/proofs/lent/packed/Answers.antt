use Rattle.std.proofs.Common.{rules}
use mathlib.Core.Path.{ap}
use native.Mathlib.Omega.{arith}
use Rattle.feed_lent.specs.declared.tags.Tagged.{Tagged}
use Rattle.feed_lent.specs.Lent.{words_of}
use Rattle.feed_lent.proofs.LentLaws.{tag_below, lent_as}
use Rattle.feed_lent.proofs.lent.packed.Goals as goal

pub goal_tagged-t-requires : goal.goal_tagged-t-requires
goal_tagged-t-requires c = search rules

pub marked-requires : goal.marked-requires
marked-requires c = omega (arith, ap (λ (t : Tagged). t.tag) c.goal_tagged-t.ensures, tag_below c.args.state.cursor.goal)

pub low_half-requires : goal.low_half-requires
low_half-requires c = search rules

pub high_half-requires : goal.high_half-requires
high_half-requires c = search rules

pub scan_word-requires : goal.scan_word-requires
scan_word-requires c = search rules

pub returns : goal.returns
unfolding words_of
returns c = lent_as c.args.state (search rules) (search rules) (search rules) (search rules) (simp (c.scan_word.ensures, c.high_half.ensures, c.low_half.ensures, c.marked.ensures, c.goal_tagged-t.ensures))
