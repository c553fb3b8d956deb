use mathlib.Core.Path.{sym, ap, ◌∙◌}
use mathlib.Core.Bool.{Bool, ◌&&◌}
use Rattle.feed.specs.Sound.{front_test}
use Rattle.feed.proofs.sound.is_sound.Goals as goal

pub returns-then-not-is_sound_cursor : goal.returns-then-not-is_sound_cursor
returns-then-not-is_sound_cursor c = sym (ap (λ (x : Bool). x && front_test c.args.state.front.have c.args.state.front.value) (sym c.is_sound_cursor.ensures ∙ c.if-not-is_sound_cursor.true))

pub returns : goal.returns
returns c = c.is_front.ensures ∙ sym (ap (λ (x : Bool). x && front_test c.args.state.front.have c.args.state.front.value) (sym c.is_sound_cursor.ensures ∙ c.if-not-is_sound_cursor.false))
