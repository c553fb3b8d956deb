-- What is promised of runs.
use Rattle.std.specs.Prelude.{ℕ, ◌+◌, ◌≤◌, List, [], ◌++◌, ◌≡◌, length, Ok, Some, None}
use Rattle.message.specs.declared.edition.Edition.{Edition}
use Rattle.feed.specs.AtOnce.{at_once}
use Rattle.feed.specs.Front.{header_in, header_of}
use Rattle.feed.specs.Opened.{opened}
use Rattle.feed.specs.Feeding.{taken_of, FedBy}
use Rattle.feed.specs.declared.state.Feed.{Feed}
use Rattle.feed.specs.declared.state.Fed.{Fed}

-- runs from a state opened for an edition, each given the state that the run before handed back: the bytes of all of them, and the last state
pub data Chain (e : Edition) : List ℕ → Feed → Type 0 where
  opening : Chain e [] (opened e)
  more : {before run : List ℕ} {st : Feed} {r : Fed} → Chain e before st → FedBy st run r → Chain e (before ++ run) r.state

-- what is promised of a run after such bytes: the answer is that of reading all bytes so far at once, no more of the run is taken than there
-- is, and where the message ends in it just up to the end; and the type and the ID that are told are those of the header among all bytes
pub record Promised (e : Edition) (before run : List ℕ) (r : Fed) : Type 0 where
  pub answer : r.answer ≡ at_once e (before ++ run)
  pub taken : r.taken ≡ taken_of (at_once e before) (at_once e (before ++ run)) (length before) (length run)
  pub within : r.taken ≤ length run
  pub ends : (n : ℕ) → at_once e before ≡ Ok None → r.answer ≡ Ok (Some n) → length before + r.taken ≡ n
  pub header : header_in r.state.front ≡ header_of (before ++ run)
