-- What only the steps of the code and their proofs need: runs that end within a field, and the words after them.
use Rattle.std.specs.declared.result.Result.{Result}
use Rattle.xdr.specs.declared.answer.Refusal.{Refusal}
use Rattle.std.specs.Prelude.{ℕ, ◌+◌, ◌*◌, ◌-◌, ◌/◌, ◌%◌, ◌^◌, ◌≤◌, ◌<◌, List, [], ◌∷◌, ◌≡◌, Bool, true, false, cond, length, get_or, leb, ltb, eqb, Ok, Err, Some}
use Rattle.message.specs.declared.edition.Edition.{Edition}
use Rattle.message.specs.declared.edition.Edition.TheVariants as E
use Rattle.message.specs.declared.answer.Message.{Message}
use Rattle.message.specs.declared.answer.Message.TheVariants as M
use Rattle.feed.specs.AtOnce.{stop}
use Rattle.feed.specs.Rest.{rule_of, scanned}
use Rattle.feed.specs.Sound.{most_string, most_gap, longest, Bounded, parts_test}
use Rattle.feed.specs.Steps.Next.{wants}
use Rattle.feed.specs.Steps.Moves.{Moves}
use Rattle.feed.specs.Answer.{Answer}
use Rattle.feed.specs.declared.state.Cursor.{Cursor}
use Rattle.feed.specs.declared.state.Scan.{Scan}
use Rattle.feed.specs.declared.state.Goal.{Goal}
use Rattle.feed.specs.declared.state.Goal.TheVariants as G
use Rattle.feed.specs.declared.state.StringField.{StringField}
use Rattle.feed_lent.specs.Lent.{goal_of, string_of, gap_of, scan_word, scan_of}

-- a run that ends within the field at hand
pub record Rests (st : Cursor) (run : List ℕ) (next : Cursor) : Type 0 where
  pub before : wants st.goal ≡ true
  pub moves : Moves st run (record { state = next; taken = length run })
  pub after : wants next.goal ≡ true

-- the goals whose bytes are gathered to a word
abbrev pub gathers : Goal → Bool
gathers (G.Word f) = true
gathers (G.String l) = true
gathers (G.Skip n a) = false
gathers G.Ended = false
gathers (G.Stopped n) = false

-- where a message ends
abbrev pub message_end : Message → ℕ
message_end (M.Index id x) = x.end
message_end (M.Request id x) = x.end
message_end (M.Response id x) = x.end
message_end (M.Ping id end) = end
message_end (M.Pong id end) = end
message_end (M.IndexUpdate id x) = x.end
message_end (M.Options id x) = x.end

-- what is said of an answer of the reading at once
abbrev pub end_of : Result Message Refusal → Answer
end_of (Ok m) = Ok (Some (message_end m))
end_of (Err r) = stop r.number r.place

-- the header has come, and the place is a short one
pub record UnderWay (ws : List ℕ) : Type 0 where
  pub near : get_or ws 5 0 ≡ 0
  pub header : get_or ws 14 0 ≡ 4

-- so many bytes end within bytes that are passed over: by the tag and the numbers of the goal, the place, and the word's bytes and their number
pub record InGap (t n m k p c v len : ℕ) : Type 0 where
  pub low : 17 ≤ t
  pub high : t < 21
  pub few : len < n
  pub none : c ≡ 0
  pub zero : v ≡ 0
  pub room : p + (n + most_gap (gap_of (t - 17) m k)) ≤ longest

-- one byte is one of a word or a length, and not its last
pub record InWord (t n m k p c v len : ℕ) : Type 0 where
  pub low : 1 ≤ t
  pub high : t < 17
  pub one : len ≡ 1
  pub few : c < 3
  pub number : v < 256 ^ c
  pub room : Bounded (goal_of t n m k) p

-- a state within a string: by the tag and the number of the goal, the place, the length word, the contents that have come and are to come,
-- the pad to come and its zeros
pub record InString (t k p c v i m z zeros : ℕ) : Type 0 where
  pub low : 10 ≤ t
  pub high : t < 17
  pub parts : parts_test (string_of (t - 10) k) c v i m z zeros ≡ true
  pub room : p + most_string (string_of (t - 10) k) ≤ longest

-- the same of words
abbrev pub GapAt : List ℕ → ℕ → Type 0
GapAt ws len = InGap (get_or ws 0 0) (get_or ws 1 0) (get_or ws 2 0) (get_or ws 3 0) (get_or ws 4 0) (get_or ws 6 0) (get_or ws 7 0) len

abbrev pub WordAt : List ℕ → ℕ → Type 0
WordAt ws len = InWord (get_or ws 0 0) (get_or ws 1 0) (get_or ws 2 0) (get_or ws 3 0) (get_or ws 4 0) (get_or ws 6 0) (get_or ws 7 0) len

abbrev pub StringAt : List ℕ → Type 0
StringAt ws = InString (get_or ws 0 0) (get_or ws 3 0) (get_or ws 4 0) (get_or ws 6 0) (get_or ws 7 0) (get_or ws 8 0) (get_or ws 9 0) (get_or ws 10 0) (get_or ws 13 0)

-- the bytes that are missing of the field at hand, by the tag, the bytes to pass over, the bytes of a word that have come, and the contents and
-- the pad to come
abbrev pub missing_by : (t n c m z : ℕ) → ℕ
missing_by t n c m z = cond (eqb t 0) 0 (cond (ltb t 10) (4 - c) (cond (ltb t 17) (cond (leb c 3) (4 - c) (m + z)) (cond (ltb t 21) n 0)))

-- no byte has come
pub record Unread (ws : List ℕ) : Type 0 where
  pub low : 1 ≤ get_or ws 0 0
  pub high : get_or ws 0 0 < 3
  pub place : get_or ws 4 0 ≡ 0
  pub near : get_or ws 5 0 ≡ 0
  pub none : get_or ws 6 0 ≡ 0
  pub zero : get_or ws 7 0 ≡ 0
  pub front : get_or ws 14 0 ≡ 0
  pub value : get_or ws 15 0 ≡ 0

-- the edition of a header's tag
abbrev pub edition_of : ℕ → Edition
edition_of t = cond (eqb t 1) E.Old E.New

-- the words after k bytes that are passed over
abbrev pub passed_over : List ℕ → ℕ → List ℕ
passed_over ws k =
    get_or ws 0 0 ∷ (get_or ws 1 0 - k) ∷ get_or ws 2 0 ∷ get_or ws 3 0 ∷ (get_or ws 4 0 + k) ∷ get_or ws 5 0 ∷ get_or ws 6 0 ∷ get_or ws 7 0
    ∷ get_or ws 8 0 ∷ get_or ws 9 0 ∷ get_or ws 10 0 ∷ get_or ws 11 0 ∷ get_or ws 12 0 ∷ get_or ws 13 0 ∷ get_or ws 14 0 ∷ get_or ws 15 0 ∷ []

-- after one byte more of a word
abbrev pub one_more : List ℕ → ℕ → List ℕ
one_more ws b =
    get_or ws 0 0 ∷ get_or ws 1 0 ∷ get_or ws 2 0 ∷ get_or ws 3 0 ∷ get_or ws 4 0 ∷ get_or ws 5 0 ∷ (get_or ws 6 0 + 1) ∷ (get_or ws 7 0 * 256 + b)
    ∷ get_or ws 8 0 ∷ get_or ws 9 0 ∷ get_or ws 10 0 ∷ get_or ws 11 0 ∷ get_or ws 12 0 ∷ get_or ws 13 0 ∷ get_or ws 14 0 ∷ get_or ws 15 0 ∷ []

-- the string at hand
abbrev pub string_at : List ℕ → StringField
string_at ws = string_of (get_or ws 0 0 - 10) (get_or ws 3 0)

-- what its rule makes of a run of contents
abbrev pub scan_over : List ℕ → List ℕ → Scan
scan_over ws run = scanned (rule_of (string_at ws)) (scan_of (get_or ws 11 0) (get_or ws 12 0)) (get_or ws 8 0) run

-- after a run of contents
abbrev pub contents_over : List ℕ → List ℕ → List ℕ
contents_over ws run =
    get_or ws 0 0 ∷ get_or ws 1 0 ∷ get_or ws 2 0 ∷ get_or ws 3 0 ∷ get_or ws 4 0 ∷ get_or ws 5 0 ∷ get_or ws 6 0 ∷ get_or ws 7 0
    ∷ (get_or ws 8 0 + length run) ∷ (get_or ws 9 0 - length run) ∷ get_or ws 10 0 ∷ scan_word (scan_over ws run) ∷ (scan_over ws run).start
    ∷ get_or ws 13 0 ∷ get_or ws 14 0 ∷ get_or ws 15 0 ∷ []

-- the words after a run of contents, and what the rule made of it is taken up from them as it was
pub record OverContents (ws run after : List ℕ) : Type 0 where
  pub are : after ≡ contents_over ws run
  pub back : scan_of (scan_word (scan_over ws run)) (scan_over ws run).start ≡ scan_over ws run

-- the words after a zero of the pad
abbrev pub zero_over : List ℕ → List ℕ
zero_over ws =
    get_or ws 0 0 ∷ get_or ws 1 0 ∷ get_or ws 2 0 ∷ get_or ws 3 0 ∷ get_or ws 4 0 ∷ get_or ws 5 0 ∷ get_or ws 6 0 ∷ get_or ws 7 0
    ∷ get_or ws 8 0 ∷ get_or ws 9 0 ∷ (get_or ws 10 0 - 1) ∷ get_or ws 11 0 ∷ get_or ws 12 0 ∷ (get_or ws 13 0 + 1) ∷ get_or ws 14 0 ∷ get_or ws 15 0 ∷ []

-- of a message that has ended or was refused
abbrev pub closed : List ℕ → (tag number place header : ℕ) → List ℕ
closed ws t n p h =
    t ∷ n ∷ get_or ws 2 0 ∷ get_or ws 3 0 ∷ (p % 4294967296) ∷ (p / 4294967296) ∷ 0 ∷ 0
    ∷ get_or ws 8 0 ∷ get_or ws 9 0 ∷ get_or ws 10 0 ∷ get_or ws 11 0 ∷ get_or ws 12 0 ∷ get_or ws 13 0 ∷ 4 ∷ h ∷ []
