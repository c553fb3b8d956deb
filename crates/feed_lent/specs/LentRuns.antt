-- Runs that are fed to words.
use Rattle.std.specs.Prelude.{ℕ, List, [], ◌++◌}
use Rattle.message.specs.declared.edition.Edition.{Edition}
use Rattle.feed.specs.Opened.{opened}
use Rattle.feed_lent.specs.Lent.{Lent, FedLent}
use Rattle.feed_lent.specs.declared.lent.Said.{Said}

-- runs from the words of a state opened for an edition, each given the words that the run before left: the bytes of all of them, and the last words
pub data LentChain (e : Edition) : List ℕ → List ℕ → Type 0 where
  lent_opening : {ws : List ℕ} → Lent (opened e) ws → LentChain e [] ws
  lent_more : {before run ws after : List ℕ} {r : Said} → LentChain e before ws → FedLent ws run r after → LentChain e (before ++ run) after
