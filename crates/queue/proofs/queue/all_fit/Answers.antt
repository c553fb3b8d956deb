-- The test of all windows is the recursion over them.
use Prim.Native.Nat.{ℕ}
use mathlib.Core.Path.{◌∙◌}
use borrow.Author.Rules.{rules}
use borrow.Author.Tests.{tests}
use Rattle.std.specs.declared.option.Option.{Option}
use Rattle.std.proofs.lemmas.Iterator.{YieldsList-from_slice}
use Rattle.std.proofs.lemmas.Iterator.Search.{all_from_yields_List}
use Rattle.link.specs.OneLink.{window_fits}
use Rattle.queue.specs.Queue.{window_of}
use Rattle.queue.proofs.QueueLaws.{all_fit_lem}
use Rattle.queue.proofs.queue.all_fit.Goals as goal

pub returns : goal.returns
returns c =
    all_from_yields_List (λ (w : Option ℕ). window_fits (window_of w)) _ _ c.all.result c.all.ensures.ran (YieldsList-from_slice c.args.windows cc) (λ x b q k. search (rules, tests))
    ∙ all_fit_lem c.args.windows
