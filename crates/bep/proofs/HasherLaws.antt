-- Laws of a hasher as words and a tail.
use Prim.Native.Nat.{ℕ, ◌+◌, ◌*◌, ◌/◌, ◌%◌, ◌^◌}
use mathlib.Core.Path.{◌≡◌, refl, ap, ◌∙◌}
use mathlib.Core.List.{List}
use native.Mathlib.Omega.{arith}
use lib.ListN.{get_or}
use Rattle.sha256.specs.Stream.{continued}
use Rattle.sha256.specs.declared.state.State.{State}
use Rattle.sha256.specs.declared.stream.Hasher.{Hasher}
use Rattle.bep.specs.Hashing.{state_of, hasher_of, hasher_words, Keeps}

abbrev sized : State → List ℕ → ℕ → Hasher
sized s t n = record { state = s; tail = t; size = n }

-- the number of its two words is a hasher's size
pub taken_up : (ws t : List ℕ) {n : ℕ} → n ≡ get_or ws 8 0 * 2 ^ 32 + get_or ws 9 0 → sized (state_of ws) t n ≡ hasher_of ws t
taken_up ws t e = ap (sized (state_of ws) t) e

-- the words and the tail of a hasher are kept
pub keeps : {x y : Hasher} {ws : List ℕ} → x ≡ y → ws ≡ hasher_words x → Keeps y 0 ws x.tail
keeps e w = record { number_is = refl; words_are = w ∙ ap hasher_words e; tail_is = ap (λ (z : Hasher). z.tail) e }

-- a hasher continued, from words and a tail
pub updated : (p : List ℕ) {x y z : Hasher} → x ≡ y → z ≡ continued x p → z ≡ continued y p
updated p e u = u ∙ ap (λ (h : Hasher). continued h p) e

-- laid out and taken up again it is the same hasher
pub taken_up_again : (x : Hasher) → hasher_of (hasher_words x) x.tail ≡ x
taken_up_again x =
    let size : x.size / 2 ^ 32 * 2 ^ 32 + x.size % 2 ^ 32 ≡ x.size = omega arith in
    ap (sized x.state x.tail) size
