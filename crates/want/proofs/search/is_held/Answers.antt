use mathlib.Core.Path.{◌∙◌}
use Rattle.table.specs.Table.{records}
use Rattle.want.specs.Listing.{block_with}
use Rattle.want.proofs.SearchLaws.{held_by}
use Rattle.want.proofs.search.is_held.Goals as goal

pub returns : goal.returns
returns c = c.is_some.ensures ∙ held_by (records c.args.table.now) (block_with c.args.size c.args.hash.now) c.search.ensures
