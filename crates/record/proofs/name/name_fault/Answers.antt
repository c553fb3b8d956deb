use Rattle.std.proofs.Common.{sym, ◌∙◌}
use Rattle.record.proofs.NameSteps.{fault_empty, fault_climbing, fault_none}
use Rattle.record.proofs.name.name_fault.Goals as goal

pub returns-then-l-eq0 : goal.returns-then-l-eq0
returns-then-l-eq0 c = sym (fault_empty c.args.l.now c.if-l-eq0.true)

pub returns-then-not-is_path : goal.returns-then-not-is_path
returns-then-not-is_path c = sym (fault_climbing c.args.l.now c.if-l-eq0.false (sym c.is_path.ensures ∙ c.if-not-is_path.true))

pub returns : goal.returns
returns c = sym (fault_none c.args.l.now c.if-l-eq0.false (sym c.is_path.ensures ∙ c.if-not-is_path.false))
