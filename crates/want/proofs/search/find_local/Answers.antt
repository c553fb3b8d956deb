use mathlib.Core.Path.{sym, ap, ◌∙◌}
use Rattle.std.specs.Prelude.{Err}
use Rattle.want.specs.Listing.{block_with}
use Rattle.want.proofs.SearchLaws.{found_bad, found_good}
use Rattle.want.proofs.search.find_local.Goals as goal

pub returns-then-not-is_good : goal.returns-then-not-is_good
returns-then-not-is_good c = let s = c.args in ap Err c.at_start.ensures ∙ found_bad s.table.now (block_with s.size s.hash.now) (sym c.is_good.ensures ∙ c.if-not-is_good.true)

pub search-requires : goal.search-requires
search-requires c = sym c.is_good.ensures ∙ c.if-not-is_good.false

pub returns : goal.returns
returns c = let s = c.args in found_good s.table.now (block_with s.size s.hash.now) (sym c.is_good.ensures ∙ c.if-not-is_good.false) c.search.ensures
