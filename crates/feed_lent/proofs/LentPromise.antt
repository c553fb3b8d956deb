-- Runs that are fed to words: the promise is that of runs that are fed to a state.
use Prim.Native.Nat.{ℕ}
use mathlib.Core.List.{List, []}
use mathlib.Core.Path.{sym, subst}
use Rattle.message.specs.declared.edition.Edition.{Edition}
use Rattle.feed.specs.Promised.{Chain, opening, more, Promised}
use Rattle.feed.specs.declared.state.Feed.{Feed}
use Rattle.feed.proofs.Promise.{promise}
use Rattle.feed_lent.specs.Lent.{feed_of, FedLent, said_with}
use Rattle.feed_lent.specs.LentRuns.{LentChain, lent_opening, lent_more}
use Rattle.feed_lent.specs.declared.lent.Said.{Said}

-- the words that runs led to are the state that they led to
pub chained : {e : Edition} {before ws : List ℕ} → LentChain e before ws → Chain e before (feed_of ws)
chained {e} (lent_opening l) = subst (λ (x : Feed). Chain e [] x) (sym l.back) opening
chained {e} (lent_more c f) = more (chained c) f.by

-- the promise, of words
pub lent_promise : {e : Edition} {before run ws after : List ℕ} {r : Said} → LentChain e before ws → FedLent ws run r after → Promised e before run (said_with r after)
lent_promise c f = promise (chained c) f.by
