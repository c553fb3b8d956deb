-- A state as 16 words that a host lends.
use Rattle.std.specs.Prelude.{ℕ, ◌+◌, ◌*◌, ◌-◌, ◌/◌, ◌%◌, List, [], ◌∷◌, ◌≡◌, true, false, cond, get_or, leb, ltb, eqb}
use Rattle.message.specs.declared.edition.Edition.{Edition}
use Rattle.message.specs.declared.edition.Edition.TheVariants as E
use Rattle.feed.specs.Sound.{is_sound}
use Rattle.feed.specs.Feeding.{FedBy}
use Rattle.feed.specs.declared.state.Cursor.{Cursor}
use Rattle.feed.specs.declared.state.Scan.{Scan}
use Rattle.feed.specs.declared.state.Front.{Front}
use Rattle.feed.specs.declared.state.Feed.{Feed}
use Rattle.feed.specs.declared.state.Fed.{Fed}
use Rattle.feed_lent.specs.declared.lent.Said.{Said}
use Rattle.feed_lent.specs.declared.tags.Tagged.{Tagged}
use Rattle.feed.specs.declared.state.Goal.{Goal}
use Rattle.feed.specs.declared.state.Goal.TheVariants as G
use Rattle.feed.specs.declared.state.WordField.{WordField}
use Rattle.feed.specs.declared.state.WordField.TheVariants as F
use Rattle.feed.specs.declared.state.StringField.{StringField}
use Rattle.feed.specs.declared.state.StringField.TheVariants as L
use Rattle.feed.specs.declared.state.Gap.{Gap}
use Rattle.feed.specs.declared.state.Gap.TheVariants as P

-- a goal as numbers: a tag, the bytes to pass over or the number of a refusal, the blocks, and the files or options
abbrev pub numbered : (tag number blocks count : ℕ) → Tagged
numbered t n m k = record { tag = t; number = n; blocks = m; count = k }

-- the tag of a header, by its edition
abbrev pub edition_tag : Edition → ℕ
edition_tag E.Old = 1
edition_tag E.New = 2

-- a word
abbrev pub word_tagged : WordField → Tagged
word_tagged (F.Start e) = numbered (edition_tag e) 0 0 0
word_tagged F.FileCount = numbered 3 0 0 0
word_tagged (F.Flags k) = numbered 4 0 0 k
word_tagged (F.BlockCount d k) = numbered (cond d 6 5) 0 0 k
word_tagged (F.Block m k) = numbered 7 0 m k
word_tagged (F.HashLength m k) = numbered 8 0 m k
word_tagged F.OptionCount = numbered 9 0 0 0

-- a string or an opaque
abbrev pub string_tagged : StringField → Tagged
string_tagged L.Index = numbered 10 0 0 0
string_tagged L.Request = numbered 11 0 0 0
string_tagged L.RequestName = numbered 12 0 0 0
string_tagged L.Data = numbered 13 0 0 0
string_tagged (L.File k) = numbered 14 0 0 k
string_tagged (L.Key k) = numbered 15 0 0 k
string_tagged (L.Value k) = numbered 16 0 0 k

-- so many bytes that are passed over
abbrev pub gap_tagged : ℕ → Gap → Tagged
gap_tagged n P.Offset = numbered 17 n 0 0
gap_tagged n (P.Times d k) = numbered (cond d 19 18) n 0 k
gap_tagged n (P.Hash m k) = numbered 20 n m k

-- each goal
abbrev pub goal_tagged : Goal → Tagged
goal_tagged (G.Word f) = word_tagged f
goal_tagged (G.String l) = string_tagged l
goal_tagged (G.Skip n a) = gap_tagged n a
goal_tagged G.Ended = numbered 21 0 0 0
goal_tagged (G.Stopped n) = numbered 22 n 0 0

-- the words of blocks and options, counted from the first one's tag
abbrev pub late_word_of : (tag m k : ℕ) → WordField
late_word_of t m k = get_or (F.Block m k ∷ F.HashLength m k ∷ []) t F.OptionCount

-- the words before them, likewise
abbrev pub words : (k : ℕ) → List WordField
words k = F.Start E.Old ∷ F.Start E.New ∷ F.FileCount ∷ F.Flags k ∷ F.BlockCount false k ∷ F.BlockCount true k ∷ []

-- the strings, counted from the first one's tag
abbrev pub strings : (k : ℕ) → List StringField
strings k = L.Index ∷ L.Request ∷ L.RequestName ∷ L.Data ∷ L.File k ∷ L.Key k ∷ []

-- what comes after bytes that are passed over, likewise
abbrev pub gaps : (k : ℕ) → List Gap
gaps k = P.Offset ∷ P.Times false k ∷ P.Times true k ∷ []

-- the word of a tag, so counted
abbrev pub word_of : (tag m k : ℕ) → WordField
word_of t m k = cond (leb 6 t) (late_word_of (t - 6) m k) (get_or (words k) t F.FileCount)

-- the string of a tag, so counted
abbrev pub string_of : (tag k : ℕ) → StringField
string_of t k = get_or (strings k) t (L.Value k)

-- what comes after bytes that are passed over, by a tag so counted
abbrev pub gap_of : (tag m k : ℕ) → Gap
gap_of t m k = get_or (gaps k) t (P.Hash m k)

-- the goal of numbers: one that no sound state has, where the tag is unknown or 0
abbrev pub goal_of : (tag n m k : ℕ) → Goal
goal_of t n m k =
    cond (eqb t 0) (G.Skip 0 P.Offset)
    (cond (ltb t 10) (G.Word (word_of (t - 1) m k))
    (cond (ltb t 17) (G.String (string_of (t - 10) k))
    (cond (ltb t 21) (G.Skip n (gap_of (t - 17) m k))
    (cond (eqb t 21) G.Ended (cond (eqb t 22) (G.Stopped n) (G.Skip 0 P.Offset))))))

-- a tag without its mark
abbrev pub tag_in : ℕ → ℕ
tag_in w = cond (leb 32 w) (w - 32) w

-- what the rules made of a string, as a word of four bytes
abbrev pub scan_word : Scan → ℕ
scan_word q = q.left + q.low * 256 + q.high * 65536 + q.part * 16777216

-- what such a word and a position are
abbrev pub scan_of : (word start : ℕ) → Scan
scan_of w i = record { left = w % 256; low = w / 256 % 256; high = w / 65536 % 256; start = i; part = w / 16777216 % 256 }

-- the words, in order
abbrev pub laid_out : Tagged → Cursor → Front → List ℕ
laid_out t c f =
    (t.tag + cond c.bad 32 0) ∷ t.number ∷ t.blocks ∷ t.count
    ∷ (c.place % 4294967296) ∷ (c.place / 4294967296)
    ∷ c.have ∷ c.value ∷ c.at ∷ c.todo ∷ c.pad
    ∷ scan_word c.scan ∷ c.scan.start ∷ c.zeros
    ∷ f.have ∷ f.value ∷ []

-- the words of a state
unfoldable pub words_of : Feed → List ℕ
words_of st = laid_out (goal_tagged st.cursor.goal) st.cursor st.front

-- the state that words are
unfoldable pub feed_of : List ℕ → Feed
feed_of ws = record {
  cursor = record {
    goal = goal_of (tag_in (get_or ws 0 0)) (get_or ws 1 0) (get_or ws 2 0) (get_or ws 3 0);
    place = get_or ws 4 0 + get_or ws 5 0 * 4294967296;
    have = get_or ws 6 0;
    value = get_or ws 7 0;
    at = get_or ws 8 0;
    todo = get_or ws 9 0;
    pad = get_or ws 10 0;
    scan = scan_of (get_or ws 11 0) (get_or ws 12 0);
    zeros = get_or ws 13 0;
    bad = leb 32 (get_or ws 0 0);
  };
  front = record { have = get_or ws 14 0; value = get_or ws 15 0 };
}

-- the words that a state is lent as, and that are that state
pub record Lent (st : Feed) (ws : List ℕ) : Type 0 where
  pub are : ws ≡ words_of st
  pub back : feed_of ws ≡ st

-- what was said of a run, with the state that the words after it are
abbrev pub said_with : Said → List ℕ → Fed
said_with r after = record { state = feed_of after; answer = r.answer; taken = r.taken }

-- what feeding a run to words gives, with the words after it: words of no sound state are left as they are
pub record FedLent (ws run : List ℕ) (r : Said) (after : List ℕ) : Type 0 where
  pub by : FedBy (feed_of ws) run (said_with r after)
  pub kept : is_sound (feed_of ws) ≡ false → after ≡ ws
