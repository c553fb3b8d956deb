use Prim.Native.Nat.{ℕ, ◌+◌, ◌-◌, ◌<◌}
use mathlib.Core.Path.{◌≡◌, sym, ap, ◌∙◌}
use native.Mathlib.Omega.{arith}
use Rattle.want.specs.Steps.Blocks.{block_here}
use Rattle.want.specs.Steps.Index.{slot_from}
use Rattle.want.proofs.HashLaws.{hash_long}
use Rattle.want.proofs.SlotLaws.{starts, block_within, at_free, at_same, goes_on, ends}
use Rattle.want.proofs.index.probe.Goals as goal

pub key-i-requires : goal.key-i-requires
key-i-requires c = hash_long c.args.t.now c.args.p c.hash_at.ensures c.requires.index_len.1

pub loop-init : goal.loop-init
loop-init c = let s = c.args in starts s.local.now s.index.now s.t.now s.p c.hash_at.ensures c.key-i.ensures

pub offset_bounds-index-i : goal.offset_bounds-index-i
offset_bounds-index-i c = omega (arith, c.loop.invariant.0)

pub bounds-index-i : goal.bounds-index-i
bounds-index-i c = omega (arith, c.loop.invariant.0, c.requires.index_len.0)

pub returns-then-e-eq0 : goal.returns-then-e-eq0
returns-then-e-eq0 c = let s = c.args in let more : 0 < 64 - c.loop.counter = omega (arith, c.loop-test.true) in at_free s.local.now s.index.now c.loop.i (block_here s.t.now s.p) more c.wide-e.ensures c.if-e-eq0.true ∙ sym c.loop.invariant.1

pub same_at-requires : goal.same_at-requires
same_at-requires c = (block_within c.args.local.now c.args.index.now c.loop.i c.requires.within c.wide-e.ensures c.if-e-eq0.false, c.requires.index_len.1)

pub returns-then-same_at : goal.returns-then-same_at
returns-then-same_at c = let s = c.args in let more : 0 < 64 - c.loop.counter = omega (arith, c.loop-test.true) in at_same s.local.now s.index.now c.loop.i (block_here s.t.now s.p) more c.wide-e.ensures c.if-e-eq0.false c.same_at.ensures c.if-same_at.true ∙ sym c.loop.invariant.1

pub next_slot-i-requires : goal.next_slot-i-requires
next_slot-i-requires c = c.loop.invariant.0

pub loop-preserved : goal.loop-preserved
loop-preserved c =
    let s = c.args in
    let more : 0 < 64 - c.loop.counter = omega (arith, c.loop-test.true) in
    let left : 64 - c.loop.counter - 1 ≡ 64 - (c.loop.counter + 1) = omega arith in
    let w = goes_on s.local.now s.index.now c.loop.i (block_here s.t.now s.p) more c.wide-e.ensures c.loop.invariant.1 c.if-e-eq0.false c.same_at.ensures c.if-same_at.false c.next_slot-i.ensures in
    (w.0, w.1 ∙ ap (λ (n : ℕ). slot_from s.local.now s.index.now c.next_slot-i.result n (block_here s.t.now s.p)) left)

pub returns : goal.returns
returns c = let s = c.args in ends s.local.now s.index.now c.loop.i (block_here s.t.now s.p) c.loop.invariant.1 (omega (arith, c.loop-test.false))
