-- A hasher lent as 10 words (the hash value so far, and how many bytes there were in two words, the high one first) and 64 bytes (its tail).
use Rattle.std.specs.Prelude.{ℕ, ◌+◌, ◌*◌, ◌/◌, ◌%◌, ◌^◌, List, [], ◌∷◌, ◌≡◌, get_or}
use Rattle.sha256.specs.declared.state.State.{State}
use Rattle.sha256.specs.declared.stream.Hasher.{Hasher}

-- the hash value in the first eight words
abbrev pub state_of : List ℕ → State
state_of ws = record {
  a = get_or ws 0 0;
  b = get_or ws 1 0;
  c = get_or ws 2 0;
  d = get_or ws 3 0;
  e = get_or ws 4 0;
  f = get_or ws 5 0;
  g = get_or ws 6 0;
  h = get_or ws 7 0;
}

-- the hasher that words and a tail are
abbrev pub hasher_of : (words tail : List ℕ) → Hasher
hasher_of ws t = record { state = state_of ws; tail = t; size = get_or ws 8 0 * 2 ^ 32 + get_or ws 9 0 }

-- the words of a hasher
abbrev pub hasher_words : Hasher → List ℕ
hasher_words x =
    x.state.a ∷ x.state.b ∷ x.state.c ∷ x.state.d ∷ x.state.e ∷ x.state.f ∷ x.state.g ∷ x.state.h
    ∷ x.size / 2 ^ 32 ∷ x.size % 2 ^ 32 ∷ []

-- a call that keeps this hasher, with these results
pub record Keeps (hasher : Hasher) (number : ℕ) (words tail : List ℕ) : Type 0 where
  pub number_is : number ≡ 0
  pub words_are : words ≡ hasher_words hasher
  pub tail_is : tail ≡ hasher.tail
