-- The word's steps, and then its test.
use Rattle.std.proofs.Common.{◌∙◌}
use Rattle.std.proofs.Common.{le-leb}
use borrow.Author.Tests.{lt-leb}
use Rattle.xdr.specs.Answers.{word_answer}
use Rattle.xdr.proofs.Answered.{handed_up, word_taken, word_refused}
use Rattle.xdr.proofs.Steps.{answered, checked_refused, checked_failed, checked_passed}
use Rattle.record.proofs.array.read_count.Goals as goal

pub returns-in_default : goal.returns-in_default
returns-in_default c = handed_up c.in_default.is c.refusal_of.ensures ∙ answered word_answer (checked_refused (word_refused c.read_word-answer.ensures c.in_default.is))

pub returns-then-limit-count : goal.returns-then-limit-count
returns-then-limit-count c = answered word_answer (checked_failed (word_taken c.read_word-answer.ensures c.in-Ok.is) (lt-leb _ _ c.if-limit-count.true))

pub returns : goal.returns
returns c = answered word_answer (checked_passed (word_taken c.read_word-answer.ensures c.in-Ok.is) (le-leb _ _ c.if-limit-count.false))
