use Rattle.std.proofs.Common.{length, sym, ◌∙◌}
use borrow.Author.Tests.{lt-leb}
use Rattle.table.specs.Limits.{bytes_limit}
use Rattle.table.proofs.TableLaws.{good_long, good_rising}
use Rattle.table.proofs.good.is_good.Goals as goal

pub returns-then-table-le-BYTES_LIMIT : goal.returns-then-table-le-BYTES_LIMIT
returns-then-table-le-BYTES_LIMIT c = c.is_rising_array.ensures ∙ sym (good_rising c.args.table.now c.if-table-le-BYTES_LIMIT.true)

pub returns-else-table-le-BYTES_LIMIT : goal.returns-else-table-le-BYTES_LIMIT
returns-else-table-le-BYTES_LIMIT c = rw (good_long c.args.table.now c.if-table-le-BYTES_LIMIT.false) (simp (lt-leb (length c.args.table.now) bytes_limit c.if-table-le-BYTES_LIMIT.false))
