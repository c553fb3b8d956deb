use mathlib.Core.Path.{refl}
use native.Mathlib.Omega.{arith}
use Rattle.feed_lent.proofs.InPlaceLaws.{fed_contents, fed_zero, fed_as, string_small}
use Rattle.feed_lent.proofs.feeding.feed_string.Goals as goal

pub contents_over-requires : goal.contents_over-requires
contents_over-requires c = (c.requires.1, (c.is_in_contents.ensures c.if-is_in_contents.true).0)

pub returns-then-is_in_contents : goal.returns-then-is_in_contents
returns-then-is_in_contents c =
    let a = c.args in
    let p = c.requires in
    let h = c.is_in_contents.ensures c.if-is_in_contents.true in
    fed_as c.waiting.ensures refl (fed_contents a.words.now a.run.now p.0 p.2 p.1 h.0 h.1 c.contents_over.ensures)

pub zero_over-requires : goal.zero_over-requires
zero_over-requires c =
    let h = c.is_in_pad.ensures c.if-is_in_pad.true in
    (h.1, omega (arith, h.1, (string_small c.args.words.now c.requires.1).1))

pub returns-then-is_in_pad : goal.returns-then-is_in_pad
returns-then-is_in_pad c =
    let a = c.args in
    let p = c.requires in
    let h = c.is_in_pad.ensures c.if-is_in_pad.true in
    fed_as c.waiting-then-is_in_pad.ensures c.zero_over.ensures (fed_zero a.words.now a.run.now p.0 p.2 p.1 h.0 h.1 h.2 h.3)
