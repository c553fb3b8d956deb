use mathlib.Core.Path.{ap, ◌∙◌}
use Rattle.want.proofs.RunLaws.{run_of}
use Rattle.want.proofs.PeerLaws.{run_none, run_by_lem}
use Rattle.want.proofs.peers.run_at.Goals as goal

pub returns-then-at-past : goal.returns-then-at-past
returns-then-at-past c = let s = c.args in run_none s.t.now s.at s.past c.if-at-past.true

pub returns-in_default : goal.returns-in_default
returns-in_default c = let s = c.args in run_by_lem s.t.now s.at s.past c.if-at-past.false c.outline_at.ensures c.in_default.is

pub returns : goal.returns
returns c = let s = c.args in let f = c.in-Some in ap (run_of f.f.first) c.listed-count.ensures ∙ run_by_lem s.t.now s.at s.past c.if-at-past.false c.outline_at.ensures f.is
