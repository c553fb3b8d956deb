use Rattle.serve.proofs.RulingLaws.{span_beyond, span_cut, span_whole}
use Rattle.serve.proofs.ruling.bytes_of.Goals as goal

pub returns-then-len-start : goal.returns-then-len-start
returns-then-len-start c = let s = c.args in span_beyond s.s.now s.x.start s.x.length c.if-len-start.true

pub returns-then-len-start-2 : goal.returns-then-len-start-2
returns-then-len-start-2 c = let s = c.args in span_cut s.s.now s.x.start s.x.length c.if-len-start.false c.if-len-start-2.true

pub returns : goal.returns
returns c = let s = c.args in span_whole s.s.now s.x.start s.x.length
