-- A lead of two and its follower.
use mathlib.Core.Path.{sym, ◌∙◌}
use Rattle.xdr.proofs.TextRule.{pair_whole}
use Rattle.xdr.proofs.text.pair_at.Goals as goal

pub returns-then-is_within : goal.returns-then-is_within
returns-then-is_within c = λ e.
    pair_whole c.args.s.now c.args.at c.requires (sym c.is_within.ensures ∙ c.if-is_within.true) (sym c.is_within-then-is_within.ensures ∙ e)
