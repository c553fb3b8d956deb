-- By each store in turn.
use Prim.Native.Nat.{ℕ}
use mathlib.Core.List.{List}
use mathlib.Core.Path.{ap, ◌∙◌}
use Rattle.queue_lent.specs.Steps.{stored_one}
use Rattle.queue_lent.proofs.shares.store_all.Goals as goal

pub returns : goal.returns
returns c =
    let ls = c.args.links in
    c.store-4.ensures
    ∙ ap (λ (r : List ℕ). stored_one r ls 4 3) (c.store-3.ensures
    ∙ ap (λ (r : List ℕ). stored_one r ls 3 2) (c.store-2.ensures
    ∙ ap (λ (r : List ℕ). stored_one r ls 2 1) c.store.ensures))
