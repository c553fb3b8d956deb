use mathlib.Core.Path.{ap}
use Rattle.want.specs.Steps.Head.{rank_of}
use Rattle.want.proofs.FieldLaws.{outline_none, stands_there, kept_stood, whole_there}
use Rattle.want.proofs.RankLaws.{stands_after, stands_by}
use Rattle.want.proofs.head.standing.Goals as goal

pub returns-then-b-at : goal.returns-then-b-at
returns-then-b-at c = let s = c.args in ap (rank_of s.a.now s.f s.b.now) (outline_none s.b.now s.at c.if-b-at.true)

pub returns-in_default : goal.returns-in_default
returns-in_default c = let s = c.args in stands_after s.a.now s.b.now (whole_there s.b.now s.at (stands_there c.args.b.now c.args.at c.requires.stands c.if-b-at.false)) c.in_default.is

pub ranked-requires : goal.ranked-requires
ranked-requires c = record { stood = kept_stood c.requires.kept c.in-Some.is; stood_2 = stands_there c.args.b.now c.args.at c.requires.stands c.if-b-at.false }

pub returns : goal.returns
returns c = let s = c.args in stands_by s.a.now s.b.now (whole_there s.b.now s.at (stands_there c.args.b.now c.args.at c.requires.stands c.if-b-at.false)) c.in-Some.is c.ranked.ensures
