-- The Message ID, what was checked, the room.
use mathlib.Core.Path.{◌∙◌}
use borrow.Author.Tests.{le-leb, lt-leb}
use Rattle.message_write.proofs.check.admitted.Goals as goal

pub returns-then-id-gt-ID_LIMIT : goal.returns-then-id-gt-ID_LIMIT
returns-then-id-gt-ID_LIMIT c = c.refused.ensures ∙ simp (lt-leb c.args.id 4095 c.if-id-gt-ID_LIMIT.true)

pub returns-in_default : goal.returns-in_default
returns-in_default c = simp (le-leb c.args.id 4095 c.if-id-gt-ID_LIMIT.false, c.in_default.is)

pub returns-then-room-n : goal.returns-then-room-n
returns-then-room-n c = c.refused-then-room-n.ensures ∙ simp (le-leb c.args.id 4095 c.if-id-gt-ID_LIMIT.false, c.in-Ok.is, lt-leb c.in-Ok.n c.args.room c.if-room-n.true)

pub returns : goal.returns
returns c = simp (le-leb c.args.id 4095 c.if-id-gt-ID_LIMIT.false, c.in-Ok.is, le-leb c.in-Ok.n c.args.room c.if-room-n.false)
