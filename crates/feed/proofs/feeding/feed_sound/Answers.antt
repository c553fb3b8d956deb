use mathlib.Core.Path.{refl, sym, ◌∙◌}
use Rattle.feed.proofs.MoveLaws.{fed_through, fed_final, fed_as}
use Rattle.feed.proofs.feeding.feed_sound.Goals as goal

pub returns-then-not-wants : goal.returns-then-not-wants
returns-then-not-wants c = fed_as c.says.ensures refl (fed_final c.requires (sym c.wants.ensures ∙ c.if-not-wants.true))

pub returns : goal.returns
returns c = fed_as c.says-2.ensures c.taken_by.ensures (fed_through c.requires (sym c.wants.ensures ∙ c.if-not-wants.false) c.through-moved.ensures)
