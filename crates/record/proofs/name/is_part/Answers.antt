use Rattle.std.proofs.Common.{not, sym, ap, ◌∙◌, arith, ne_eqb}
use Rattle.record.proofs.PathSteps.{empty_part, one_byte, plain_part, two_bytes, long_part}
use Rattle.record.proofs.name.is_part.Goals as goal

pub returns-in-0 : goal.returns-in-0
returns-in-0 c = sym (empty_part _ c.in-0.is)

pub returns-in-1 : goal.returns-in-1
returns-in-1 c = sym (one_byte _ c.in-1.is)

pub returns-then-p-ne46 : goal.returns-then-p-ne46
returns-then-p-ne46 c = ap not (ne_eqb _ 46 c.if-p-ne46.true) ∙ sym (plain_part c.args.p.now (omega arith) c.if-p-ne46.true)

pub returns-else-p-ne46 : goal.returns-else-p-ne46
returns-else-p-ne46 c = sym (two_bytes _ c.in-2.is c.if-p-ne46.false)

pub returns-in_default : goal.returns-in_default
returns-in_default c = sym (long_part c.args.p.now (omega arith))
