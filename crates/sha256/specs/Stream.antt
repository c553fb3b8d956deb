-- Hashing in pieces: what a hasher holds, and what each call makes of any hasher.
use Rattle.std.specs.Prelude.{ℕ, ◌+◌, ◌-◌, ◌*◌, ◌/◌, ◌%◌, ◌^◌, List, [], ◌∷◌, ◌++◌, length, take, drop, replicate}
use Rattle.sha256.specs.Constants.{H⁰}
use Rattle.sha256.specs.Hash.{padding, hash_all}
use Rattle.sha256.specs.declared.state.State.{State}
use Rattle.sha256.specs.declared.stream.Hasher.{Hasher}

-- the bytes after the last whole block
abbrev pub rest : List ℕ → List ℕ
rest M = drop (length M / 64 * 64) M

-- the same of all bytes that a hasher was given: they stand first in its tail, and what stands behind them makes no difference
abbrev pub pending : Hasher → List ℕ
pending h = take (h.size % 64) h.tail

-- whole blocks hashed from a hash value on, the bytes after them with zeros up to a block, and how many bytes there were
abbrev pub kept : State → (l : List ℕ) → (size : ℕ) → Hasher
kept s l n = record {
  state = hash_all s l;
  tail = rest l ++ replicate (64 - length l % 64) 0;
  size = n % 2 ^ 64;
}

-- no bytes yet
unfoldable pub begun : Hasher
begun = record { state = H⁰; tail = replicate 64 0; size = 0 }

-- further bytes
unfoldable pub continued : Hasher → List ℕ → Hasher
continued h p = kept h.state (pending h ++ p) (h.size + length p)

-- the final hash value of all bytes
unfoldable pub ended : Hasher → State
ended h = hash_all h.state (pending h ++ padding h.size)

-- some pieces, one call for each
abbrev pub continued_all : Hasher → List (List ℕ) → Hasher
continued_all h [] = h
continued_all h (p ∷ ps) = continued_all (continued h p) ps

-- the pieces in one
abbrev pub whole : List (List ℕ) → List ℕ
whole [] = []
whole (p ∷ ps) = p ++ whole ps
