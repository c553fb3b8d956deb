-- Blocks one after another.
use Rattle.std.proofs.Common.{◌≡◌, ℕ, ◌/◌, ◌<◌, List, length, refl, arith}
use Rattle.sha256.specs.Constants.{K}
use Rattle.sha256.specs.Schedule.{schedule}
use Rattle.sha256.specs.Hash.{words_of, rounds, sum, hash_block, hash_blocks, hash_all}
use Rattle.sha256.specs.Steps.{words_in}
use Rattle.sha256.specs.declared.state.State.{State}
use Rattle.sha256.specs.declared.block.Block.{Block}

-- a block's words and its rounds are the block hashed
pub block_hashed : (M : List ℕ) (w : Block) (s r t : State) → words_in w ≡ words_of 16 M → r ≡ rounds K (schedule (words_in w)) s → t ≡ sum s r
    → t ≡ hash_block s M
unfolding hash_block
block_hashed M w s r t e f g = cc

-- the whole blocks of 64 bytes, and of fewer
module _ (M : List ℕ) (s : State) where
  pub one_block : length M ≡ 64 → hash_all s M ≡ hash_block s M
  unfolding hash_blocks
  one_block h =
      let n : length M / 64 ≡ 1 = omega arith in
      rw n refl

  pub no_block : length M < 64 → hash_all s M ≡ s
  unfolding hash_blocks
  no_block h =
      let n : length M / 64 ≡ 0 = omega arith in
      rw n refl
