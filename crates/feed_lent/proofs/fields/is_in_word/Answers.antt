use lib.ListN.{get_or}
use mathlib.Core.Path.{sym, ap, subst, ◌∙◌}
use Prim.Native.Nat.{◌+◌, ◌≤◌, ◌-◌}
use native.Mathlib.Omega.{arith}
use Rattle.feed.specs.Sound.{most_word, most_string, longest, Bounded}
use Rattle.feed.specs.declared.state.Goal.{Goal}
use Rattle.feed.proofs.TestLaws.{has_room_lem, test_word}
use Rattle.feed_lent.specs.Lent.{word_of, string_of}
use Rattle.feed_lent.proofs.InPlaceLaws.{word_goal, string_goal}
use Rattle.feed_lent.proofs.fields.is_in_word.Goals as goal

pub returns-then-tag-lt10 : goal.returns-then-tag-lt10
returns-then-tag-lt10 c e =
    let ws = c.args.words.now in
    let r : (get_or ws 4 0) + most_word (word_of ((get_or ws 0 0) - 1) (get_or ws 2 0) (get_or ws 3 0)) ≤ longest = omega (arith, has_room_lem (get_or ws 4 0) c.most_word.result (sym c.room_for.ensures ∙ e), c.most_word.ensures.0, ap most_word c.word_of.ensures) in
    record {
      low = omega (arith, c.if-tag-eq0.false);
      high = c.if-tag-ge17.false;
      one = c.if-len-ne1.false;
      few = c.if-have-ge3.false;
      number = (test_word _ _ (sym c.is_word.ensures ∙ c.if-not-is_word.false)).1;
      room = subst (λ (g : Goal). Bounded g (get_or ws 4 0)) (sym (word_goal (get_or ws 0 0) (get_or ws 1 0) (get_or ws 2 0) (get_or ws 3 0) (omega (arith, c.if-tag-eq0.false)) c.if-tag-lt10.true)) r;
    }

pub returns : goal.returns
returns c e =
    let ws = c.args.words.now in
    let r : (get_or ws 4 0) + most_string (string_of ((get_or ws 0 0) - 10) (get_or ws 3 0)) ≤ longest = omega (arith, has_room_lem (get_or ws 4 0) c.most_string.result (sym c.room_for-2.ensures ∙ e), c.most_string.ensures.0, ap most_string c.string_of.ensures) in
    record {
      low = omega (arith, c.if-tag-eq0.false);
      high = c.if-tag-ge17.false;
      one = c.if-len-ne1.false;
      few = c.if-have-ge3.false;
      number = (test_word _ _ (sym c.is_word.ensures ∙ c.if-not-is_word.false)).1;
      room = subst (λ (g : Goal). Bounded g (get_or ws 4 0)) (sym (string_goal (get_or ws 0 0) (get_or ws 1 0) (get_or ws 2 0) (get_or ws 3 0) (omega (arith, c.if-tag-lt10.false)) c.if-tag-ge17.false)) r;
    }
