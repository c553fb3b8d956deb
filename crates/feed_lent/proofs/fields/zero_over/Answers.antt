use mathlib.Core.List.{List}
use mathlib.Core.Path.{◌≡◌, refl}
use Prim.Native.Nat.{ℕ, ◌+◌, ◌-◌}
use lib.ListN.{length, get_or, set}
use Rattle.feed_lent.specs.Steps.{zero_over}
use Rattle.feed_lent.proofs.WordLaws.{of_words}
use Rattle.feed_lent.proofs.fields.zero_over.Goals as goal

set_zero_over : (ws : List ℕ) → length ws ≡ 16 → set (set ws 10 (get_or ws 10 0 - 1)) 13 (get_or (set ws 10 (get_or ws 10 0 - 1)) 13 0 + 1) ≡ zero_over ws
set_zero_over ws e = of_words (λ (ws : List ℕ). set (set ws 10 (get_or ws 10 0 - 1)) 13 (get_or (set ws 10 (get_or ws 10 0 - 1)) 13 0 + 1) ≡ zero_over ws) (λ v0 v1 v2 v3 v4 v5 v6 v7 v8 v9 v10 v11 v12 v13 v14 v15. refl) ws e

pub returns : goal.returns
returns c = set_zero_over c.args.words.now c.told-words
