-- A message that is fed run by run: each call says what reading all bytes so far at once says, however they were cut.
use Rattle.std.specs.Prelude.{Ok, Some, None}
use Rattle.std.specs.Prelude.{ℕ, ◌+◌, ◌≤◌, ◌<◌, List, [], ◌∷◌, ◌++◌, ◌≡◌, length, get_or}
use Rattle.message.specs.Answers.{message_in}
use Rattle.message.specs.declared.edition.Edition.{Edition}
use Rattle.feed.specs.AtOnce.{at_once}
use Rattle.feed.specs.Front.{header_in, header_of}
use Rattle.feed.specs.Opened.{opened}
use Rattle.feed.specs.Feeding.{taken_of}
use Rattle.feed_lent.specs.Lent.{feed_of, Lent}
use Rattle.bep.specs.Words.{read_number, read_words}
use Rattle.bep.specs.Feeding.{Feeds}

-- calls from an opening for an edition, each given the words that the one before left: the bytes of all their runs, and the words after the last
pub data Calls (e : Edition) : (bytes words : List ℕ) → Type 0 where
  opening : {words : List ℕ} → Lent (opened e) words → Calls e [] words
  feeding : {before run words answer after : List ℕ} {number : ℕ} → Calls e before words → Feeds words run number answer after → Calls e (before ++ run) after

-- the number of reading bytes at once, by the contracts of bep_read and bep_read_old
abbrev pub reads_to : Edition → List ℕ → ℕ
reads_to e s = read_number (message_in e s)

-- the first word of its answer: the message's end, or the place
abbrev pub first_word : Edition → List ℕ → ℕ
first_word e s = get_or (read_words (message_in e s)) 0 0

-- so many bytes are surely missing after some: at least one, and fewer than that leave the number at 1
pub record Missing (e : Edition) (bytes : List ℕ) (m : ℕ) : Type 0 where
  pub some : 1 ≤ m
  pub fewer : (t : List ℕ) → length t < m → reads_to e (bytes ++ t) ≡ 1

-- what a call gives for a run after some bytes
pub record FedAsRead (e : Edition) (before run : List ℕ) (number : ℕ) (answer : List ℕ) : Type 0 where
  -- its number is that of all bytes so far
  pub numbered : number ≡ reads_to e (before ++ run)
  -- where that is 1, the run was taken whole, and the first word tells how many bytes are missing
  pub waiting : number ≡ 1 → (m : ℕ) × (answer ≡ m ∷ length run ∷ []) × Missing e (before ++ run) m
  -- else the first word is that of all bytes so far
  pub told : (number ≡ 1 → ⊥) → answer ≡ first_word e (before ++ run) ∷ taken_of (at_once e before) (at_once e (before ++ run)) (length before) (length run) ∷ []
  -- no more of the run is taken than there is
  pub within : get_or answer 1 0 ≤ length run
  -- and where the message ends in it, just up to the end
  pub ends : (n : ℕ) → at_once e before ≡ Ok None → at_once e (before ++ run) ≡ Ok (Some n) → length before + get_or answer 1 0 ≡ n
  -- once it was told, every later run gets the same, and none of its bytes are taken
  pub over : (reads_to e before ≡ 1 → ⊥) → (number ≡ reads_to e before) × (answer ≡ first_word e before ∷ 0 ∷ [])

-- the header by which bep_feed_header gives its number and words is the one that the bytes so far begin with
abbrev pub HeaderTold : (bytes words : List ℕ) → Type 0
HeaderTold bytes words = header_in (feed_of words).front ≡ header_of bytes
