use mathlib.Core.Path.{ap}
use native.Mathlib.Omega.{arith}
use lib.ListN.{length}
use Rattle.feed.proofs.MoveLaws.{gap_moves}
use Rattle.feed.proofs.CodeLaws.{fits_at, bounded_at}
use Rattle.feed.specs.declared.state.Cursor.{Cursor}
use Rattle.feed.proofs.moves.gap_move.Goals as goal

pub gap_after-requires : goal.gap_after-requires
gap_after-requires c = let f = fits_at c.requires.1 c.requires.0 in (omega (arith, bounded_at c.args.state _ c.requires.1 c.requires.0, c.if-len-n.true), omega (arith, c.if-len-n.true))

pub returns-then-len-n : goal.returns-then-len-n
returns-then-len-n c = gap_moves c.args.state c.args.part.now _ c.args.n c.args.gap (length c.args.part.now) c.requires.0 c.requires.1 c.requires.2 (omega (arith, c.if-len-n.true)) (omega arith) (ap (λ (x : Cursor). record { state = x; taken = length c.args.part.now }) c.gap_after.ensures)

pub gap_after-requires-2 : goal.gap_after-requires-2
gap_after-requires-2 c = let f = fits_at c.requires.1 c.requires.0 in (omega (arith, bounded_at c.args.state _ c.requires.1 c.requires.0), omega (arith))

pub returns : goal.returns
returns c = gap_moves c.args.state c.args.part.now _ c.args.n c.args.gap c.args.n c.requires.0 c.requires.1 (fits_at c.requires.1 c.requires.0).1 (omega arith) c.if-len-n.false (ap (λ (x : Cursor). record { state = x; taken = c.args.n }) c.gap_after-2.ensures)
