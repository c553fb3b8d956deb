use Rattle.std.specs.Prelude.{Ok}
use mathlib.Core.Path.{refl, sym, ap, ◌∙◌}
use Rattle.xdr.proofs.Answered.{word_taken}
use Rattle.message.specs.declared.edition.Edition.{Edition}
use Rattle.feed.specs.AtOnce.{at_once}
use Rattle.feed_lent.proofs.InPlaceLaws.{first_ended, first_refused, fed_as}
use Rattle.feed_lent.proofs.feeding.feed_first.Goals as goal

pub returns-in-Ok-Some : goal.returns-in-Ok-Some
returns-in-Ok-Some c = let a = c.args in fed_as refl c.closed.ensures
    (first_ended a.words.now a.run.now c.requires (word_taken c.read_word.ensures c.in-Ok.is) (ap (λ (e : Edition). at_once e a.run.now) (sym c.edition_of.ensures) ∙ sym c.at_once.ensures ∙ c.in-Ok-Some.is ∙ ap Ok c.in-Ok-Some.field-0-is))

pub returns-in-Err : goal.returns-in-Err
returns-in-Err c = let a = c.args in fed_as refl c.closed-in-Err.ensures
    (first_refused a.words.now a.run.now c.requires (word_taken c.read_word.ensures c.in-Ok.is) (ap (λ (e : Edition). at_once e a.run.now) (sym c.edition_of.ensures) ∙ sym c.at_once.ensures ∙ c.in-Err.is))
