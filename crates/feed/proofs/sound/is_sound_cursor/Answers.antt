use mathlib.Core.Path.{sym, ap, ◌∙◌}
use mathlib.Core.Bool.{Bool}
use Rattle.feed.specs.Sound.{fits_test, is_sound_cursor}
use mathlib.Core.Bool.{◌&&◌}
use Rattle.feed.proofs.sound.is_sound_cursor.Goals as goal

pub returns-then-not-is_bounded : goal.returns-then-not-is_bounded
unfolding is_sound_cursor
returns-then-not-is_bounded c = sym (ap (λ (x : Bool). x && fits_test c.args.cursor.goal c.args.cursor) (sym c.is_bounded.ensures ∙ c.if-not-is_bounded.true))

pub returns : goal.returns
unfolding is_sound_cursor
returns c = c.is_fit.ensures ∙ sym (ap (λ (x : Bool). x && fits_test c.args.cursor.goal c.args.cursor) (sym c.is_bounded.ensures ∙ c.if-not-is_bounded.false))
