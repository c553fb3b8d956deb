-- A block that is not there ends the sum, as none after it is there.
use Rattle.std.proofs.Common.{◌≡◌, ◌+◌, ◌-◌, sym, ap, ◌∙◌, arith}
use Rattle.record.specs.Outline.{offset_of}
use Rattle.record.proofs.OutlineLaws.{offset_stays}
use Rattle.record.proofs.outline.offset_of.Goals as goal

pub returns-in_default : goal.returns-in_default
returns-in_default c =
    let s = c.args.s.now in
    let first = c.args.first in
    let j = c.loop-j.j in
    let whole : j + (c.args.i - j) ≡ c.args.i = omega arith in
    c.loop-j.invariant.0 ∙ sym (offset_stays s first j (c.args.i - j) (sym c.block_at.ensures ∙ c.in_default.is)) ∙ ap (offset_of s first) whole
