use mathlib.Core.List.{List}
use mathlib.Core.Path.{◌≡◌, refl}
use Prim.Native.Nat.{ℕ, ◌+◌, ◌*◌}
use lib.ListN.{length, get_or, set}
use Rattle.feed_lent.specs.Steps.{one_more}
use Rattle.feed_lent.proofs.WordLaws.{of_words}
use Rattle.feed_lent.proofs.fields.one_more.Goals as goal

set_one_more : (ws : List ℕ) (b : ℕ) → length ws ≡ 16 → set (set ws 6 (get_or ws 6 0 + 1)) 7 (get_or (set ws 6 (get_or ws 6 0 + 1)) 7 0 * 256 + b) ≡ one_more ws b
set_one_more ws b e = of_words (λ (ws : List ℕ). set (set ws 6 (get_or ws 6 0 + 1)) 7 (get_or (set ws 6 (get_or ws 6 0 + 1)) 7 0 * 256 + b) ≡ one_more ws b) (λ v0 v1 v2 v3 v4 v5 v6 v7 v8 v9 v10 v11 v12 v13 v14 v15. refl) ws e

pub returns : goal.returns
returns c = set_one_more c.args.words.now c.args.b c.told-words
