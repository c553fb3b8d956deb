-- The table that it lends is K.
use Rattle.std.proofs.Common.{refl}
use Rattle.sha256.specs.Constants.{K}
use Rattle.sha256.proofs.compress.hashed.Goals as goal

pub hash_blocks-requires : goal.hash_blocks-requires
unfolding K
hash_blocks-requires c = refl
