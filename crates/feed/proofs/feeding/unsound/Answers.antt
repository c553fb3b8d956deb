use Rattle.feed.proofs.feeding.unsound.Goals as goal

pub returns : goal.returns
returns c = simp c.at_start.ensures
