use mathlib.Core.List.{List}
use mathlib.Core.Path.{◌≡◌, refl}
use Prim.Native.Nat.{ℕ, ◌/◌, ◌%◌}
use lib.ListN.{length, set}
use Rattle.feed_lent.specs.Steps.{closed}
use Rattle.feed_lent.proofs.WordLaws.{of_words}
use Rattle.feed_lent.proofs.fields.closed.Goals as goal

set_closed : (ws : List ℕ) (t n p h : ℕ) → length ws ≡ 16
    → set (set (set (set (set (set (set (set ws 0 t) 1 n) 4 (p % 4294967296)) 5 (p / 4294967296)) 6 0) 7 0) 14 4) 15 h ≡ closed ws t n p h
set_closed ws t n p h e =
    of_words (λ (ws : List ℕ). set (set (set (set (set (set (set (set ws 0 t) 1 n) 4 (p % 4294967296)) 5 (p / 4294967296)) 6 0) 7 0) 14 4) 15 h ≡ closed ws t n p h)
    (λ v0 v1 v2 v3 v4 v5 v6 v7 v8 v9 v10 v11 v12 v13 v14 v15. refl) ws e

pub returns : goal.returns
returns c = rw (c.low_half.ensures, c.high_half.ensures) (set_closed c.args.words.now c.args.tag c.args.number c.args.place c.args.header c.told-words)
