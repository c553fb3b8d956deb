use mathlib.Core.List.{List}
use mathlib.Core.Path.{◌≡◌, refl}
use Prim.Native.Nat.{ℕ, ◌+◌, ◌-◌}
use lib.ListN.{length, get_or, set}
use Rattle.feed_lent.specs.Steps.{passed_over}
use Rattle.feed_lent.proofs.WordLaws.{of_words}
use Rattle.feed_lent.proofs.fields.passed_over.Goals as goal

set_passed_over : (ws : List ℕ) (k : ℕ) → length ws ≡ 16 → set (set ws 1 (get_or ws 1 0 - k)) 4 (get_or (set ws 1 (get_or ws 1 0 - k)) 4 0 + k) ≡ passed_over ws k
set_passed_over ws k e = of_words (λ (ws : List ℕ). set (set ws 1 (get_or ws 1 0 - k)) 4 (get_or (set ws 1 (get_or ws 1 0 - k)) 4 0 + k) ≡ passed_over ws k) (λ v0 v1 v2 v3 v4 v5 v6 v7 v8 v9 v10 v11 v12 v13 v14 v15. refl) ws e

pub returns : goal.returns
returns c = set_passed_over c.args.words.now c.args.k c.told-words
