-- Where the block goes, by what its probe found.
use native.Mathlib.Omega.{arith}
use Rattle.want.proofs.SlotLaws.{slot_below, put_told, placed_told}
use Rattle.want.proofs.index.insert.Goals as goal

pub offset_bounds-index-i : goal.offset_bounds-index-i
offset_bounds-index-i c = let s = c.args in omega (arith, slot_below s.t.now s.index.now s.p c.probe.ensures c.in-Free.is)

pub bounds-index-i : goal.bounds-index-i
bounds-index-i c = omega (arith, slot_below c.args.t.now c.args.index.now c.args.p c.probe.ensures c.in-Free.is, c.requires.index_len.0)

pub returns-in-Free : goal.returns-in-Free
returns-in-Free c = let s = c.args in let q = put_told s.t.now s.index.now s.p c.probe.ensures c.in-Free.is c.narrow.ensures in record { value = q.0; index_after = q.1 }

pub returns-in-Present : goal.returns-in-Present
returns-in-Present c = let s = c.args in let q = placed_told s.t.now s.index.now s.p c.probe.ensures c.in-Present.is in record { value = q.0; index_after = q.1 }

pub returns-in-Full : goal.returns-in-Full
returns-in-Full c = let s = c.args in let q = placed_told s.t.now s.index.now s.p c.probe.ensures c.in-Full.is in record { value = q.0; index_after = q.1 }
