-- Both records stand in their tables.
use Rattle.want.proofs.FieldLaws.{within}
use Rattle.want.proofs.SameRecordLaws.{never, same_empty, told_same}
use Rattle.want.proofs.head.is_same.Goals as goal

pub returns-then-not-is_alike : goal.returns-then-not-is_alike
returns-then-not-is_alike c = never

pub returns-then-f-eq0 : goal.returns-then-f-eq0
returns-then-f-eq0 c =
    λ e. same_empty c.requires.stood c.requires.stood_2 (c.is_alike.ensures c.if-not-is_alike.false) c.if-f-eq0.true

pub between-requires : goal.between-requires
between-requires c = let w = within c.requires.stood in (w.listed, w.inside)

pub between-requires-2 : goal.between-requires-2
between-requires-2 c = let w = within c.requires.stood_2 in (w.listed, w.inside)

pub returns : goal.returns
returns c =
    told_same c.requires.stood c.requires.stood_2 (c.is_alike.ensures c.if-not-is_alike.false)
    c.between.ensures c.between-2.ensures c.compare_long.ensures c.is_eq.ensures
