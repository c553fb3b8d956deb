-- The word's steps, and then its test.
use Rattle.std.proofs.Common.{sym, ◌∙◌}
use Rattle.xdr.specs.Answers.{word_answer}
use Rattle.xdr.proofs.Answered.{handed_up, word_taken, word_refused}
use Rattle.xdr.proofs.Steps.{answered, checked_refused, checked_failed, checked_passed}
use Rattle.record.proofs.block.read_size.Goals as goal

pub returns-in_default : goal.returns-in_default
returns-in_default c = handed_up c.in_default.is c.refusal_of.ensures ∙ answered word_answer (checked_refused (word_refused c.read_word-answer.ensures c.in_default.is))

pub returns-then-not-is_size : goal.returns-then-not-is_size
returns-then-not-is_size c = answered word_answer (checked_failed (word_taken c.read_word-answer.ensures c.in-Ok.is) (sym c.is_size.ensures ∙ c.if-not-is_size.true))

pub returns : goal.returns
returns c = answered word_answer (checked_passed (word_taken c.read_word-answer.ensures c.in-Ok.is) (sym c.is_size.ensures ∙ c.if-not-is_size.false))
