-- Laying a state out in words, and taking it up.
use Rattle.std.specs.Prelude.{Err}
use Prim.Native.Nat.{ℕ, ◌+◌, ◌*◌, ◌-◌, ◌/◌, ◌%◌, ◌<◌, ◌≤◌}
use mathlib.Core.List.{List, [], ◌∷◌}
use mathlib.Core.Path.{◌≡◌, refl, sym, ap, subst, ◌∙◌}
use mathlib.Core.Bool.{Bool, true, false, cond}
use native.Mathlib.Omega.{arith}
use native.Mathlib.Nat.{add-zero}
use borrow.Author.Tests.{le-leb, lt-leb}
use lib.ListN.{get_or-eq_default}
use lib.Dec.{leb}
use Rattle.message.specs.declared.edition.Edition.TheVariants as E
use Rattle.feed.specs.Sound.{is_sound}
use Rattle.feed.specs.Feeding.{FedBy}
use Rattle.feed_lent.specs.Lent.{word_tagged, string_tagged, gap_tagged, goal_tagged, strings, gaps, late_word_of, string_of, gap_of, goal_of, tag_in, scan_word, scan_of, words_of, feed_of, Lent, FedLent}
use Rattle.feed.specs.Answer.{Answer}
use Rattle.feed.specs.declared.state.Cursor.{Cursor}
use Rattle.feed.specs.declared.state.Scan.{Scan}
use Rattle.feed.specs.declared.state.Feed.{Feed}
use Rattle.feed.specs.declared.state.Fed.{Fed}
use Rattle.feed_lent.specs.declared.lent.Said.{Said}
use Rattle.feed_lent.specs.declared.tags.Tagged.{Tagged}
use Rattle.feed.specs.declared.state.Goal.{Goal}
use Rattle.feed.specs.declared.state.Goal.TheVariants as G
use Rattle.feed.specs.declared.state.WordField.{WordField}
use Rattle.feed.specs.declared.state.WordField.TheVariants as F
use Rattle.feed.specs.declared.state.StringField.{StringField}
use Rattle.feed.specs.declared.state.StringField.TheVariants as L
use Rattle.feed.specs.declared.state.Gap.{Gap}
use Rattle.feed.specs.declared.state.Gap.TheVariants as P
use Rattle.feed.proofs.TestLaws.{differ}

-- the last of each kind

pub late_rest : (t m k : ℕ) → 2 ≤ t → F.OptionCount ≡ late_word_of t m k
late_rest t m k h = sym (get_or-eq_default (F.Block m k ∷ F.HashLength m k ∷ []) F.OptionCount {n = t} h)

pub string_rest : (t k : ℕ) → 6 ≤ t → L.Value k ≡ string_of t k
string_rest t k h = sym (get_or-eq_default (strings k) (L.Value k) {n = t} h)

pub gap_rest : (t m k : ℕ) → 3 ≤ t → P.Hash m k ≡ gap_of t m k
gap_rest t m k h = sym (get_or-eq_default (gaps k) (P.Hash m k) {n = t} h)

-- a tag is below its mark

word_below : (f : WordField) → (word_tagged f).tag < 32
word_below (F.Start E.Old) = omega arith
word_below (F.Start E.New) = omega arith
word_below F.FileCount = omega arith
word_below (F.Flags k) = omega arith
word_below (F.BlockCount true k) = omega arith
word_below (F.BlockCount false k) = omega arith
word_below (F.Block m k) = omega arith
word_below (F.HashLength m k) = omega arith
word_below F.OptionCount = omega arith

string_below : (l : StringField) → (string_tagged l).tag < 32
string_below L.Index = omega arith
string_below L.Request = omega arith
string_below L.RequestName = omega arith
string_below L.Data = omega arith
string_below (L.File k) = omega arith
string_below (L.Key k) = omega arith
string_below (L.Value k) = omega arith

gap_below : (n : ℕ) (a : Gap) → (gap_tagged n a).tag < 32
gap_below n P.Offset = omega arith
gap_below n (P.Times true k) = omega arith
gap_below n (P.Times false k) = omega arith
gap_below n (P.Hash m k) = omega arith

pub tag_below : (g : Goal) → (goal_tagged g).tag < 32
tag_below (G.Word f) = word_below f
tag_below (G.String l) = string_below l
tag_below (G.Skip n a) = gap_below n a
tag_below G.Ended = omega arith
tag_below (G.Stopped n) = omega arith

-- each part is taken up as it was laid out

abbrev numbers_goal : Tagged → Goal
numbers_goal t = goal_of t.tag t.number t.blocks t.count

word_back : (f : WordField) → numbers_goal (word_tagged f) ≡ G.Word f
word_back (F.Start E.Old) = refl
word_back (F.Start E.New) = refl
word_back F.FileCount = refl
word_back (F.Flags k) = refl
word_back (F.BlockCount true k) = refl
word_back (F.BlockCount false k) = refl
word_back (F.Block m k) = refl
word_back (F.HashLength m k) = refl
word_back F.OptionCount = refl

string_back : (l : StringField) → numbers_goal (string_tagged l) ≡ G.String l
string_back L.Index = refl
string_back L.Request = refl
string_back L.RequestName = refl
string_back L.Data = refl
string_back (L.File k) = refl
string_back (L.Key k) = refl
string_back (L.Value k) = refl

gap_back : (n : ℕ) (a : Gap) → numbers_goal (gap_tagged n a) ≡ G.Skip n a
gap_back n P.Offset = refl
gap_back n (P.Times true k) = refl
gap_back n (P.Times false k) = refl
gap_back n (P.Hash m k) = refl

goal_back : (g : Goal) → numbers_goal (goal_tagged g) ≡ g
goal_back (G.Word f) = word_back f
goal_back (G.String l) = string_back l
goal_back (G.Skip n a) = gap_back n a
goal_back G.Ended = refl
goal_back (G.Stopped n) = refl

tag_back : (t : ℕ) (b : Bool) → t < 32 → tag_in (t + cond b 32 0) ≡ t
tag_back t true h = let e : t + 32 - 32 ≡ t = omega arith in ap (λ (x : Bool). cond x (t + 32 - 32) (t + 32)) (le-leb 32 (t + 32) (omega arith)) ∙ e
tag_back t false h = ap (λ (x : Bool). cond x (t + 0 - 32) (t + 0)) (lt-leb 32 (t + 0) (omega arith)) ∙ add-zero t

mark_back : (t : ℕ) (b : Bool) → t < 32 → leb 32 (t + cond b 32 0) ≡ b
mark_back t true h = le-leb 32 (t + 32) (omega arith)
mark_back t false h = lt-leb 32 (t + 0) (omega arith)

pub place_back : (p : ℕ) → p % 4294967296 + p / 4294967296 * 4294967296 ≡ p
place_back p = omega arith

module _ (a b c d : ℕ) (ha : a < 256) (hb : b < 256) (hc : c < 256) (hd : d < 256) where
  byte_0 : (a + b * 256 + c * 65536 + d * 16777216) % 256 ≡ a
  byte_0 = omega arith

  byte_1 : (a + b * 256 + c * 65536 + d * 16777216) / 256 % 256 ≡ b
  byte_1 = let e : (a + b * 256 + c * 65536 + d * 16777216) / 256 ≡ b + c * 256 + d * 65536 = omega arith in rw e (omega arith)

  byte_2 : (a + b * 256 + c * 65536 + d * 16777216) / 65536 % 256 ≡ c
  byte_2 = let e : (a + b * 256 + c * 65536 + d * 16777216) / 65536 ≡ c + d * 256 = omega arith in rw e (omega arith)

  byte_3 : (a + b * 256 + c * 65536 + d * 16777216) / 16777216 % 256 ≡ d
  byte_3 = let e : (a + b * 256 + c * 65536 + d * 16777216) / 16777216 ≡ d = omega arith in rw e (omega arith)

abbrev bytes : (a b c i d : ℕ) → Scan
bytes a b c i d = record { left = a; low = b; high = c; start = i; part = d }

pub scan_back : (q : Scan) → q.left < 256 → q.low < 256 → q.high < 256 → q.part < 256 → scan_of (scan_word q) q.start ≡ q
scan_back q ha hb hc hd =
    let w : ℕ = scan_word q in
    ap (λ (x : ℕ). bytes x (w / 256 % 256) (w / 65536 % 256) q.start (w / 16777216 % 256)) (byte_0 q.left q.low q.high q.part ha hb hc hd)
    ∙ ap (λ (x : ℕ). bytes q.left x (w / 65536 % 256) q.start (w / 16777216 % 256)) (byte_1 q.left q.low q.high q.part ha hb hc hd)
    ∙ ap (λ (x : ℕ). bytes q.left q.low x q.start (w / 16777216 % 256)) (byte_2 q.left q.low q.high q.part ha hb hc hd)
    ∙ ap (λ (x : ℕ). bytes q.left q.low q.high q.start x) (byte_3 q.left q.low q.high q.part ha hb hc hd)

-- and so is the whole

abbrev with_parts : Feed → Goal → ℕ → Scan → Bool → Feed
with_parts st g p q b = record {
  cursor = record {
    goal = g;
    place = p;
    have = st.cursor.have;
    value = st.cursor.value;
    at = st.cursor.at;
    todo = st.cursor.todo;
    pad = st.cursor.pad;
    scan = q;
    zeros = st.cursor.zeros;
    bad = b;
  };
  front = st.front;
}

pub feed_back : (st : Feed) → st.cursor.scan.left < 256 → st.cursor.scan.low < 256 → st.cursor.scan.high < 256 → st.cursor.scan.part < 256
    → feed_of (words_of st) ≡ st
unfolding feed_of words_of
feed_back st ha hb hc hd =
    let c : Cursor = st.cursor in
    let t : Tagged = goal_tagged c.goal in
    let w : ℕ = t.tag + cond c.bad 32 0 in
    let p : ℕ = c.place % 4294967296 + c.place / 4294967296 * 4294967296 in
    let q : Scan = scan_of (scan_word c.scan) c.scan.start in
    ap (λ (x : ℕ). with_parts st (goal_of x t.number t.blocks t.count) p q (leb 32 w)) (tag_back t.tag c.bad (tag_below c.goal))
    ∙ ap (λ (x : Goal). with_parts st x p q (leb 32 w)) (goal_back c.goal)
    ∙ ap (λ (x : ℕ). with_parts st c.goal x q (leb 32 w)) (place_back c.place)
    ∙ ap (λ (x : Scan). with_parts st c.goal c.place x (leb 32 w)) (scan_back c.scan ha hb hc hd)
    ∙ ap (λ (x : Bool). with_parts st c.goal c.place c.scan x) (mark_back t.tag c.bad (tag_below c.goal))

pub lent_as : (st : Feed) {ws : List ℕ} → st.cursor.scan.left < 256 → st.cursor.scan.low < 256 → st.cursor.scan.high < 256 → st.cursor.scan.part < 256
    → ws ≡ words_of st → Lent st ws
lent_as st ha hb hc hd e = record { are = e; back = ap feed_of e ∙ feed_back st ha hb hc hd }

-- what feeding words gives

pub fed_unsound : {ws run : List ℕ} {r : Said} → is_sound (feed_of ws) ≡ false → r.answer ≡ Err (record { number = 22; place = 0 }) → r.taken ≡ 0 → FedLent ws run r ws
fed_unsound {ws} {run} {r} e a t = record {
  by = record {
    feeding = λ s. absurd (differ s e);
    fronting = λ s. absurd (differ s e);
    refusing = λ s.
        ap (λ (x : Answer). record { state = feed_of ws; answer = x; taken = r.taken }) a
        ∙ ap (λ (x : ℕ). record { state = feed_of ws; answer = Err (record { number = 22; place = 0 }); taken = x }) t;
  };
  kept = λ s. refl;
}

pub fed_sound : {ws run after : List ℕ} {st : Feed} {f : Fed} → st ≡ feed_of ws → is_sound st ≡ true → FedBy st run f → Lent f.state after
    → FedLent ws run (record { answer = f.answer; taken = f.taken }) after
fed_sound {ws} {run} {after} {st} {f} e s b l = record {
  by = subst (λ (x : Feed). FedBy (feed_of ws) run (record { state = x; answer = f.answer; taken = f.taken })) (sym l.back) (subst (λ (x : Feed). FedBy x run f) e b);
  kept = λ g. absurd (differ (ap is_sound (sym e) ∙ s) g);
}
