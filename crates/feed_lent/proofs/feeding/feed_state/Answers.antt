use Rattle.std.specs.Prelude.{Err}
use mathlib.Core.Path.{refl, sym, ap, ◌∙◌}
use Rattle.feed.specs.Sound.{is_sound}
use Rattle.feed_lent.proofs.LentLaws.{fed_unsound, fed_sound}
use Rattle.feed_lent.proofs.feeding.feed_state.Goals as goal

pub returns-then-not-is_sound : goal.returns-then-not-is_sound
returns-then-not-is_sound c = fed_unsound (ap is_sound (sym c.unpacked-state.ensures) ∙ sym c.is_sound.ensures ∙ c.if-not-is_sound.true) (ap Err c.at_start.ensures) refl

pub returns : goal.returns
returns c = fed_sound c.unpacked-state.ensures (sym c.is_sound.ensures ∙ c.if-not-is_sound.false) c.feed-fed.ensures c.packed.ensures
