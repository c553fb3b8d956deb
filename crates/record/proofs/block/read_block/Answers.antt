-- Each field that was read is a step, and each return the steps up to it.
use Rattle.std.proofs.Common.{◌∙◌}
use Rattle.xdr.proofs.Answered.{handed_up, word_taken, word_refused, bytes_taken, bytes_refused}
use Rattle.xdr.proofs.Steps.{answered, via_refused, via_taken, first_refused, both_read}
use Rattle.record.specs.Answers.{block_answer}
use Rattle.record.proofs.block.read_block.Goals as goal

pub returns-in_default : goal.returns-in_default
returns-in_default c = handed_up c.in_default.is c.refusal_of.ensures ∙ answered block_answer (via_refused (first_refused (word_refused c.read_size-length.ensures c.in_default.is)))

pub returns-in_default-bytes : goal.returns-in_default-bytes
returns-in_default-bytes c = handed_up c.in_default-bytes.is c.refusal_of-in_default-bytes.ensures ∙ answered block_answer (via_refused (both_read (word_taken c.read_size-length.ensures c.in-Ok.is) (bytes_refused c.read_hash-bytes.ensures c.in_default-bytes.is)))

pub returns : goal.returns
returns c =
    answered block_answer (via_taken (both_read (word_taken c.read_size-length.ensures c.in-Ok.is)
    (bytes_taken c.read_hash-bytes.ensures c.in-Ok-bytes.is).1))
