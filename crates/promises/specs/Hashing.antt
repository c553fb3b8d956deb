-- A message hashed in pieces: its digest is the one that it has in one, however it was cut.
use Rattle.std.specs.Prelude.{ℕ, List, [], ◌++◌}
use Rattle.sha256.specs.Hash.{state_bytes}
use Rattle.sha256.specs.Stream.{begun, continued, ended}
use Rattle.bep.specs.Hashing.{hasher_of, Keeps}

-- calls from a beginning on, each given the words and the tail that the one before left: the bytes of all their pieces, and what the last left
pub data HashCalls : (bytes words tail : List ℕ) → Type 0 where
  beginning : {words tail : List ℕ} {number : ℕ} → Keeps begun number words tail → HashCalls [] words tail
  updating : {before words tail words' tail' : List ℕ} {number : ℕ} (piece : List ℕ) → HashCalls before words tail
      → Keeps (continued (hasher_of words tail) piece) number words' tail' → HashCalls (before ++ piece) words' tail'

-- what bep_sha256_finish then fills, by its contract
abbrev pub finished : (words tail : List ℕ) → List ℕ
finished words tail = state_bytes (ended (hasher_of words tail))
