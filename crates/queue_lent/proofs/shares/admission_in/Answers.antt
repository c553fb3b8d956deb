-- By the peer and the bytes of a sound queue.
use mathlib.Core.List.{[]}
use mathlib.Core.Path.{sym, ◌∙◌}
use Rattle.queue.proofs.QueueLaws.{admission_told}
use Rattle.queue_lent.specs.Words.{queue_of}
use Rattle.queue_lent.proofs.shares.admission_in.Goals as goal

pub returns : goal.returns
returns c = rw (c.ok_or.ensures.value, c.sound_bytes.ensures, c.at_start-2.ensures) (admission_told (queue_of c.args.words.now []) c.args.peer (sym c.is_peer.ensures ∙ c.if-not-is_peer.false))
