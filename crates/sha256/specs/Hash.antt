-- FIPS 180-4, 5.1.1, 5.2.1 and 6.2.2: padding, parsing and the hash computation.
use Rattle.std.specs.Prelude.{ℕ, zero, suc, ◌+◌, ◌-◌, ◌*◌, ◌/◌, ◌%◌, ◌^◌, List, [], ◌∷◌, ◌++◌, length, drop, replicate, slice_index}
use Rattle.sha256.specs.Functions.{◌⊞◌, Ch, Maj, Σ₀, Σ₁}
use Rattle.sha256.specs.Constants.{K, H⁰}
use Rattle.sha256.specs.Schedule.{schedule}
use Rattle.sha256.specs.declared.state.State.{State}

-- a number modulo 256 ^ k, in k bytes, the highest first
unfoldable pub bytes_of : ℕ → ℕ → List ℕ
bytes_of zero n = []
bytes_of (suc k) n = n / 256 ^ k % 256 ∷ bytes_of k n

-- how many zero bytes follow the 1 bit and its seven zeros, so that the length in eight bytes ends a block of 64
abbrev pub zeros : ℕ → ℕ
zeros l = (119 - l % 64) % 64

-- what is appended to a message of n bytes: a 1 bit, zero bits, and its length in bits
unfoldable pub padding : ℕ → List ℕ
padding n = 128 ∷ replicate (zeros n) 0 ++ bytes_of 8 (8 * n)

-- a message, padded
abbrev pub padded : List ℕ → List ℕ
padded M = M ++ padding (length M)

-- the word that four bytes are, the highest first
unfoldable pub word_of : List ℕ → ℕ
word_of M = slice_index M 0 * 16777216 + slice_index M 1 * 65536 + slice_index M 2 * 256 + slice_index M 3

-- the first n words of some bytes
unfoldable pub words_of : ℕ → List ℕ → List ℕ
words_of zero M = []
words_of (suc n) M = word_of M ∷ words_of n (drop 4 M)

-- the two temporary words of a round
abbrev pub T₁ : State → (k w : ℕ) → ℕ
T₁ s k w = s.h ⊞ Σ₁ s.e ⊞ Ch s.e s.f s.g ⊞ k ⊞ w

abbrev pub T₂ : State → ℕ
T₂ s = Σ₀ s.a ⊞ Maj s.a s.b s.c

-- one round, with its constant and its word of the schedule
unfoldable pub round : (k w : ℕ) → State → State
round k w s = record {
  h = s.g;
  g = s.f;
  f = s.e;
  e = s.d ⊞ T₁ s k w;
  d = s.c;
  c = s.b;
  b = s.a;
  a = T₁ s k w ⊞ T₂ s;
}

-- the rounds, one after another
unfoldable pub rounds : (ks ws : List ℕ) → State → State
rounds [] ws s = s
rounds (k ∷ ks) [] s = s
rounds (k ∷ ks) (w ∷ ws) s = rounds ks ws (round k w s)

-- the hash value before a block plus what the rounds made of it, word by word
unfoldable pub sum : State → State → State
sum s t = record {
  a = t.a ⊞ s.a;
  b = t.b ⊞ s.b;
  c = t.c ⊞ s.c;
  d = t.d ⊞ s.d;
  e = t.e ⊞ s.e;
  f = t.f ⊞ s.f;
  g = t.g ⊞ s.g;
  h = t.h ⊞ s.h;
}

-- one block: the first 64 bytes of those given
unfoldable pub hash_block : State → List ℕ → State
hash_block s M = sum s (rounds K (schedule (words_of 16 M)) s)

-- the first n blocks of some bytes
unfoldable pub hash_blocks : ℕ → State → List ℕ → State
hash_blocks zero s M = s
hash_blocks (suc n) s M = hash_blocks n (hash_block s M) (drop 64 M)

-- all whole blocks of some bytes
abbrev pub hash_all : State → List ℕ → State
hash_all s M = hash_blocks (length M / 64) s M

-- the final hash value of a message
unfoldable pub hash_value : List ℕ → State
hash_value M = hash_all H⁰ (padded M)

-- a hash value as bytes
unfoldable pub state_bytes : State → List ℕ
state_bytes s =
    bytes_of 4 s.a ++ bytes_of 4 s.b ++ bytes_of 4 s.c ++ bytes_of 4 s.d
    ++ bytes_of 4 s.e ++ bytes_of 4 s.f ++ bytes_of 4 s.g ++ bytes_of 4 s.h

-- the message digest
abbrev pub digest : List ℕ → List ℕ
digest M = state_bytes (hash_value M)
