-- BlockInfo: a Length and a Hash.
use Rattle.std.specs.Prelude.{ℕ, ◌+◌, Bool, true, cond, ◌&&◌, List, [], ◌∷◌, ◌==◌, nat_eq, nat_le, refl}
use Rattle.xdr.specs.Format.{Format, bytes, array, pair, checked, via}
use Rattle.xdr.specs.Fields.{word, up_to}
use Rattle.record.specs.Limits.{blocks_limit, size_limit, hash_length}

-- a block as a value: `size` is the Length
pub record Block : Type 0 where
  pub size : ℕ
  pub hash : List ℕ

-- 1 up to the limit
abbrev pub is_size : ℕ → Bool
is_size n = nat_le 1 n && nat_le n size_limit

-- the Length of a block or of a Request
abbrev pub size : Format ℕ
size = checked 10 is_size word

-- an opaque of exactly 32 bytes, which need no pad
abbrev pub hash : Format (List ℕ)
hash = bytes (checked 9 (λ n. nat_eq n hash_length) word)

-- the block with a Length and a hash
abbrev pub to_block : ℕ × List ℕ → Block
to_block p = record { size = p.0; hash = p.1 }

-- the Length and the hash of a block
abbrev pub from_block : Block → ℕ × List ℕ
from_block b = (b.size, b.hash)

-- a block: Length, Hash
abbrev pub block : Format Block
block = via to_block from_block (λ p. refl) (λ b. refl) (pair size λ n. hash)

-- the number of a file's blocks: none where it is deleted
abbrev pub block_count : Bool → Format ℕ
block_count deleted = checked 12 (λ n. cond deleted (n == 0) true) (up_to blocks_limit)

-- the blocks of a file, deleted or not
abbrev pub blocks : Bool → Format (List Block)
blocks deleted = array (block_count deleted) block

-- the sum of their Lengths: the offset of the block after them
abbrev pub total_size : List Block → ℕ
total_size [] = 0
total_size (b ∷ l) = b.size + total_size l
