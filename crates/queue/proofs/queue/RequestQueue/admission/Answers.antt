-- By the peer and the bytes of a sound queue.
use mathlib.Core.Path.{sym, ◌∙◌}
use Rattle.queue.proofs.QueueLaws.{admission_told}
use Rattle.queue.proofs.queue.RequestQueue.admission.Goals as goal

pub returns : goal.returns
returns c = rw (c.ok_or.ensures.value, c.sound_bytes.ensures, c.at_start-2.ensures) (admission_told c.args.self c.args.peer (sym c.is_peer.ensures ∙ c.if-not-is_peer.false))
