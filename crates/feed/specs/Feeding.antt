-- What feeding a run to a state gives.
use Rattle.std.specs.Prelude.{ℕ, ◌+◌, ◌-◌, ◌≤◌, List, [], ◌++◌, ◌≡◌, true, false, length, Ok, Err, Some, None}
use Rattle.feed.specs.Rest.{rest}
use Rattle.feed.specs.Sound.{Sound, reached, is_sound}
use Rattle.feed.specs.Front.{FrontOver}
use Rattle.feed.specs.Answer.{Answer}
use Rattle.feed.specs.declared.state.Cursor.{Cursor}
use Rattle.feed.specs.declared.state.Led.{Led}
use Rattle.feed.specs.declared.state.Feed.{Feed}
use Rattle.feed.specs.declared.state.Fed.{Fed}

-- how many bytes of a run are taken, by what was said before it and is said after it, of `so_far` bytes before it and its length:
-- none where the message was at its end before; up to the end where it ends in this run; all of a run that is refused or waited for
abbrev pub taken_of : (before after : Answer) → (so_far size : ℕ) → ℕ
taken_of (Ok None) (Ok None) so_far size = size
taken_of (Ok None) (Ok (Some end)) so_far size = end - so_far
taken_of (Ok None) (Err r) so_far size = size
taken_of (Ok (Some end)) after so_far size = 0
taken_of (Err r) after so_far size = 0

-- a sound reading that was fed a run: what is said is what it stands for says of the run, and it then stands for what is left of that
pub record Feeding (st : Cursor) (run : List ℕ) (r : Led) : Type 0 where
  pub answered : r.answer ≡ rest st run
  pub taking : r.taken ≡ taken_of (rest st []) (rest st run) (reached st) (length run)
  pub within : r.taken ≤ length run
  pub ending : (n : ℕ) → r.answer ≡ Ok (Some n) → rest st [] ≡ Ok None → reached st + r.taken ≡ n
  pub on : (t : List ℕ) → rest r.state t ≡ rest st (run ++ t)
  pub sound : Sound r.state
  pub counted : r.answer ≡ Ok None → reached r.state ≡ reached st + length run

-- where the reading of a fed state stands, with what was said
abbrev pub led_by : Fed → Led
led_by r = record { state = r.state.cursor; answer = r.answer; taken = r.taken }

-- a state that is not sound is handed back as it is, refused with 22
abbrev pub unsound : Feed → Fed
unsound st = record { state = st; answer = Err (record { number = 22; place = 0 }); taken = 0 }

-- what feeding a run to any state gives
pub record FedBy (st : Feed) (run : List ℕ) (r : Fed) : Type 0 where
  pub feeding : is_sound st ≡ true → Feeding st.cursor run (led_by r)
  pub fronting : is_sound st ≡ true → FrontOver st.front run r.state.front
  pub refusing : is_sound st ≡ false → r ≡ unsound st
