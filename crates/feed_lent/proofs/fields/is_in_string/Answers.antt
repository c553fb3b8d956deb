use lib.ListN.{get_or}
use mathlib.Core.Path.{sym, ap, ◌∙◌}
use native.Mathlib.Omega.{arith}
use Rattle.feed.specs.Sound.{most_string, parts_test}
use Rattle.feed.specs.declared.state.StringField.{StringField}
use Rattle.feed.proofs.TestLaws.{has_room_lem}
use Rattle.feed_lent.proofs.fields.is_in_string.Goals as goal

pub returns : goal.returns
returns c e = let ws = c.args.words.now in record {
  low = c.if-tag-lt10.false;
  high = c.if-tag-ge17.false;
  parts = ap (λ (l : StringField). parts_test l (get_or ws 6 0) (get_or ws 7 0) (get_or ws 8 0) (get_or ws 9 0) (get_or ws 10 0) (get_or ws 13 0)) (sym c.string_of-string.ensures) ∙ sym c.is_inside.ensures ∙ c.if-not-is_inside.false;
  room = omega (arith, has_room_lem (get_or ws 4 0) c.most_string.result (sym c.room_for.ensures ∙ e), c.most_string.ensures.0, ap most_string c.string_of-string.ensures);
}
