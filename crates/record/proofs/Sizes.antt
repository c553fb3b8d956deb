-- How many bytes a block and a file take.
use Rattle.std.proofs.Common.{◌≡◌, List, [], ◌∷◌, length, refl, arith, length-append, eqb-true}
use lib.ListN.{length-replicate}
use Rattle.xdr.specs.Format.{encode, encode_all, AllOf, Valid}
use Rattle.record.specs.Limits.{block_bytes}
use Rattle.record.specs.Block.{Block, block}
use Rattle.record.specs.File.{File, file}
use Rattle.record.specs.Outline.{blocks_size, fields_of}

pub block_bytes_lem : (b : Block) → Valid block b → length (encode block b) ≡ block_bytes
unfolding encode Valid
block_bytes_lem b v =
    let long : length b.hash ≡ 32 = eqb-true (length b.hash) 32 v.1.0.1 in
    simp (length-append, length-replicate) (omega arith)

blocks_bytes : (l : List Block) → AllOf (λ b. Valid block b) l → length (encode_all (λ b. encode block b) l) ≡ blocks_size (length l)
blocks_bytes [] v = refl
blocks_bytes (b ∷ l) v = simp length-append (omega (arith, block_bytes_lem b v.0, blocks_bytes l v.1))

-- a file ends where its fields do
pub file_bytes : (f : File) → Valid file f → length (encode file f) ≡ (fields_of 0 f).past
unfolding encode Valid
file_bytes f v =
    let l = blocks_bytes f.blocks v.1.1.1.1.1 in
    simp (length-append, length-replicate) (omega arith)
