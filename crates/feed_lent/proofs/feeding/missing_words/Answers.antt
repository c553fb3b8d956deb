use mathlib.Core.Path.{ap, ◌∙◌}
use Prim.Native.Nat.{ℕ}
use Rattle.feed_lent.specs.Steps.{missing_by}
use lib.ListN.{get_or}
use Rattle.feed_lent.proofs.InPlaceLaws.{missing_by_lem}
use Rattle.feed_lent.proofs.feeding.missing_words.Goals as goal

pub returns : goal.returns
returns c =
    let ws = c.args.words.now in
    c.missing_of.ensures ∙ ap (λ (t : ℕ). missing_by t (get_or ws 1 0) (get_or ws 6 0) (get_or ws 9 0) (get_or ws 10 0)) c.tag_in.ensures ∙ missing_by_lem ws
