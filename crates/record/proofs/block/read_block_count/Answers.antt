-- The count's steps, and then its test.
use Rattle.std.proofs.Common.{sym, ◌∙◌}
use Rattle.xdr.specs.Answers.{word_answer}
use Rattle.xdr.proofs.Answered.{handed_up, word_taken, word_refused}
use Rattle.xdr.proofs.Steps.{answered, checked_refused, checked_failed, checked_passed}
use Rattle.record.proofs.block.read_block_count.Goals as goal

pub returns-in_default : goal.returns-in_default
returns-in_default c = handed_up c.in_default.is c.refusal_of.ensures ∙ answered word_answer (checked_refused (word_refused c.read_count-answer.ensures c.in_default.is))

pub returns-then-not-may_have : goal.returns-then-not-may_have
returns-then-not-may_have c = answered word_answer (checked_failed (word_taken c.read_count-answer.ensures c.in-Ok.is) (sym c.may_have.ensures ∙ c.if-not-may_have.true))

pub returns : goal.returns
returns c = answered word_answer (checked_passed (word_taken c.read_count-answer.ensures c.in-Ok.is) (sym c.may_have.ensures ∙ c.if-not-may_have.false))
