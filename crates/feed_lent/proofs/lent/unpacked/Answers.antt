use Rattle.std.proofs.Common.{rules}
use Rattle.feed_lent.specs.Lent.{feed_of}
use Rattle.feed_lent.proofs.lent.unpacked.Goals as goal

pub bounds-words-0 : goal.bounds-words-0
bounds-words-0 c = search rules

pub tag_in-requires : goal.tag_in-requires
tag_in-requires c = search rules

pub bounds-words-1 : goal.bounds-words-1
bounds-words-1 c = search rules

pub bounds-words-2 : goal.bounds-words-2
bounds-words-2 c = search rules

pub bounds-words-3 : goal.bounds-words-3
bounds-words-3 c = search rules

pub goal_of-goal-requires : goal.goal_of-goal-requires
goal_of-goal-requires c = search rules

pub bounds-words-11 : goal.bounds-words-11
bounds-words-11 c = search rules

pub bounds-words-12 : goal.bounds-words-12
bounds-words-12 c = search rules

pub scan_of-scan-requires : goal.scan_of-scan-requires
scan_of-scan-requires c = search rules

pub bounds-words-4 : goal.bounds-words-4
bounds-words-4 c = search rules

pub bounds-words-5 : goal.bounds-words-5
bounds-words-5 c = search rules

pub place_of-requires : goal.place_of-requires
place_of-requires c = search rules

pub bounds-words-6 : goal.bounds-words-6
bounds-words-6 c = search rules

pub bounds-words-7 : goal.bounds-words-7
bounds-words-7 c = search rules

pub bounds-words-8 : goal.bounds-words-8
bounds-words-8 c = search rules

pub bounds-words-9 : goal.bounds-words-9
bounds-words-9 c = search rules

pub bounds-words-10 : goal.bounds-words-10
bounds-words-10 c = search rules

pub bounds-words-13 : goal.bounds-words-13
bounds-words-13 c = search rules

pub bounds-words-14 : goal.bounds-words-14
bounds-words-14 c = search rules

pub bounds-words-15 : goal.bounds-words-15
bounds-words-15 c = search rules

pub returns : goal.returns
unfolding feed_of
returns c = simp (c.place_of.ensures, c.scan_of-scan.ensures, c.goal_of-goal.ensures, c.tag_in.ensures)
