-- The number and the words of the details.
use mathlib.Core.Path.{sym, ap, subst, ◌∙◌}
use Rattle.bep.specs.Details.{details_number, details_words, StopsAfter}
use Rattle.bep.proofs.DetailsLaws.{stops_after}
use Rattle.bep.proofs.requests.bep_details.Goals as goal

pub give_details-requires : goal.give_details-requires
give_details-requires c = subst StopsAfter (sym c.details_of-details.ensures) (stops_after _ _ _ _)

pub returns : goal.returns
returns c = let e = c.details_of-details.ensures in (c.give_details.ensures.0 ∙ ap details_number e, c.give_details.ensures.1 ∙ ap details_words e)
