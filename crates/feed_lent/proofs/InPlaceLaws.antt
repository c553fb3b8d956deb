-- Words that change in place are those of a state that the run leads to.
use Rattle.std.specs.Prelude.{Ok, Err, Some, None}
use Prim.Native.Nat.{ℕ, zero, suc, ◌+◌, ◌*◌, ◌-◌, ◌/◌, ◌%◌, ◌^◌, ◌≤◌, ◌<◌}
use mathlib.Core.List.{List}
use mathlib.Core.Path.{◌≡◌, refl, sym, ap, subst, ◌∙◌}
use mathlib.Core.Bool.{Bool, true, false, cond}
use native.Mathlib.Omega.{arith}
use native.Mathlib.Decide.{dec_lt}
use borrow.Author.Tests.{le-leb, lt-leb, lt-ltb, le-ltb, ne_eqb}
use lib.ListN.{length, get_or}
use lib.Dec.{leb, ltb, eqb}
use Rattle.xdr.specs.Reading.{taken}
use Rattle.xdr.specs.Fields.{word}
use Rattle.xdr.proofs.Steps.{Reads, ends_word}
use Rattle.xdr.proofs.Parts.{number_value}
use Rattle.xdr.specs.declared.answer.Refusal.{Refusal}
use Rattle.feed.specs.AtOnce.{at_once}
use Rattle.feed.specs.Rest.{rest, gathered, at_goal}
use Rattle.feed.specs.Sound.{Bounded, Inside, Fits, Sound, reached}
use Rattle.feed.specs.Front.{no_front, front_after, FrontFits, FrontOver}
use Rattle.feed.specs.Missing.{missing_of, missing_in}
use Rattle.feed.specs.Feeding.{Feeding}
use Rattle.feed.specs.Steps.Next.{gap_after, wants}
use Rattle.feed.specs.Answer.{Answer}
use Rattle.feed.specs.declared.state.Cursor.{Cursor}
use Rattle.feed.specs.declared.state.Scan.{Scan}
use Rattle.feed.specs.declared.state.Front.{Front}
use Rattle.feed.specs.declared.state.Goal.{Goal}
use Rattle.feed.specs.declared.state.Goal.TheVariants as G
use Rattle.feed.specs.declared.state.WordField.TheVariants as F
use Rattle.feed.specs.declared.state.Gap.{Gap}
use Rattle.feed.specs.declared.state.Gap.TheVariants as P
use Rattle.feed.proofs.CodeLaws.{limit_most, wants_at}
use Rattle.feed.proofs.FrontLaws.{front_first, fronting_none, fronting_full, no_front_lem}
use Rattle.feed.proofs.MoveLaws.{fed_through}
use Rattle.feed.proofs.TestLaws.{differ, test_inside, feed_test, fed_by}
use Rattle.feed_lent.specs.Lent.{goal_of, word_of, string_of, gap_of, tag_in, scan_word, scan_of, feed_of, FedLent}
use Rattle.feed_lent.specs.Steps.{gathers, UnderWay, GapAt, WordAt, StringAt, Unread, edition_of, missing_by, passed_over, one_more, string_at, scan_over, contents_over, OverContents, zero_over, closed}
use Rattle.feed_lent.specs.declared.lent.Said.{Said}
use Rattle.feed_lent.proofs.LentLaws.{place_back}
use Rattle.feed_lent.proofs.OnceLaws.{once_ended, once_refused}
use Rattle.feed_lent.proofs.RunLaws.{rests_feeding, gap_rests, byte_rests, contents_rests, zero_rests}

-- a test that says no
pub says_no : {X : Type 0} → false ≡ true → X
says_no e = let z : ◌≡◌ {A = ℕ} 0 1 = cc in absurd (omega arith)

-- the goal of a tag, by its range

pub plain_tag : (t : ℕ) → t < 32 → tag_in t ≡ t
plain_tag t h = simp (lt-leb 32 t h)

pub word_goal : (t n m k : ℕ) → 1 ≤ t → t < 10 → goal_of t n m k ≡ G.Word (word_of (t - 1) m k)
word_goal t n m k l h = simp (ne_eqb t 0 (λ e. omega arith), lt-ltb t 10 h)

pub string_goal : (t n m k : ℕ) → 10 ≤ t → t < 17 → goal_of t n m k ≡ G.String (string_of (t - 10) k)
string_goal t n m k l h = simp (ne_eqb t 0 (λ e. omega arith), le-ltb t 10 l, lt-ltb t 17 h)

pub gap_goal : (t n m k : ℕ) → 17 ≤ t → t < 21 → goal_of t n m k ≡ G.Skip n (gap_of (t - 17) m k)
gap_goal t n m k l h = simp (ne_eqb t 0 (λ e. omega arith), le-ltb t 10 (omega arith), le-ltb t 17 l, lt-ltb t 21 h)

-- a state at a word has the same reading, whatever is kept of strings
abbrev other : Cursor → (i c z : ℕ) → Scan → (zeros : ℕ) → Bool → Cursor
other a i c z q zeros bad = record { goal = a.goal; place = a.place; have = a.have; value = a.value; at = i; todo = c; pad = z; scan = q; zeros = zeros; bad = bad }

module _ (a : Cursor) (i c z : ℕ) (q : Scan) (zeros : ℕ) (bad : Bool) (few : a.have ≤ 3) where
  other_rest : (t : List ℕ) → rest (other a i c z q zeros bad) t ≡ rest a t
  unfolding rest
  other_rest t = simp (le-leb a.have 3 few)

  other_reached : reached (other a i c z q zeros bad) ≡ reached a
  unfolding reached
  other_reached = simp (le-leb a.have 3 few)

  other_fits : (g : Goal) → Fits g a → Fits g (other a i c z q zeros bad)
  other_fits (G.Word f) h = h
  other_fits (G.String l) h = (h.0, λ m. absurd (omega arith))
  other_fits (G.Skip n b) h = h
  other_fits G.Ended h = h
  other_fits (G.Stopped n) h = h

  other_feeding : {st : Cursor} {run : List ℕ} {b : Answer} {k : ℕ} → Feeding st run (record { state = a; answer = b; taken = k })
      → Feeding st run (record { state = other a i c z q zeros bad; answer = b; taken = k })
  other_feeding f = record {
    answered = f.answered;
    taking = f.taking;
    within = f.within;
    ending = f.ending;
    on = λ t. other_rest t ∙ f.on t;
    sound = record { bounded = f.sound.bounded; fits = other_fits a.goal f.sound.fits };
    counted = λ e. other_reached ∙ f.counted e;
  }

-- a run that was fed to words, by the state that they are afterwards
in_place : {ws run after : List ℕ} {a : Answer} {k : ℕ} → Sound (feed_of ws).cursor → FrontFits (feed_of ws).front
    → Feeding (feed_of ws).cursor run (record { state = (feed_of after).cursor; answer = a; taken = k }) → FrontOver (feed_of ws).front run (feed_of after).front
    → FedLent ws run (record { answer = a; taken = k }) after
in_place {ws} s f b g = let good = feed_test (feed_of ws) s f in record { by = fed_by good b g; kept = λ e. absurd (differ good e) }

-- a cursor with what words keep of strings
abbrev kept : Goal → (p c v : ℕ) → List ℕ → Bool → Cursor
kept g p c v ws bad = record {
  goal = g;
  place = p;
  have = c;
  value = v;
  at = get_or ws 8 0;
  todo = get_or ws 9 0;
  pad = get_or ws 10 0;
  scan = scan_of (get_or ws 11 0) (get_or ws 12 0);
  zeros = get_or ws 13 0;
  bad = bad;
}

-- a message whose header has come
module _ (ws run : List ℕ) (u : UnderWay ws) where
  place_is : (feed_of ws).cursor.place ≡ get_or ws 4 0
  unfolding feed_of
  place_is = omega (arith, u.near)

  goal_is : (g : Goal) → get_or ws 0 0 < 32 → goal_of (get_or ws 0 0) (get_or ws 1 0) (get_or ws 2 0) (get_or ws 3 0) ≡ g → (feed_of ws).cursor.goal ≡ g
  unfolding feed_of
  goal_is g h e = ap (λ (t : ℕ). goal_of t (get_or ws 1 0) (get_or ws 2 0) (get_or ws 3 0)) (plain_tag (get_or ws 0 0) h) ∙ e

  fits_front : FrontFits (feed_of ws).front
  unfolding feed_of
  fits_front = record { four = omega (arith, u.header); number = λ l. absurd (omega (arith, u.header)) }

  front_stays : FrontOver (feed_of ws).front run (feed_of ws).front
  unfolding feed_of
  front_stays = fronting_full (fronting_none (record { have = get_or ws 14 0; value = get_or ws 15 0 }) run (record { four = omega (arith, u.header); number = λ l. absurd (omega (arith, u.header)) })) u.header

  sound_at : (g : Goal) → (feed_of ws).cursor.goal ≡ g → Bounded g (get_or ws 4 0) → Fits g (feed_of ws).cursor → Sound (feed_of ws).cursor
  sound_at g e b f = record {
    bounded = subst (λ (x : Goal). Bounded x (feed_of ws).cursor.place) (sym e) (subst (λ (p : ℕ). Bounded g p) (sym place_is) b);
    fits = subst (λ (x : Goal). Fits x (feed_of ws).cursor) (sym e) f;
  }

  -- bytes that are passed over
  module _ (o : 0 < length run) (h : GapAt ws (length run)) where
    gap : Gap
    gap = gap_of (get_or ws 0 0 - 17) (get_or ws 2 0) (get_or ws 3 0)

    gap_is : (feed_of ws).cursor.goal ≡ G.Skip (get_or ws 1 0) (gap_of (get_or ws 0 0 - 17) (get_or ws 2 0) (get_or ws 3 0))
    gap_is = goal_is _ (omega (arith, h.high)) (gap_goal (get_or ws 0 0) (get_or ws 1 0) (get_or ws 2 0) (get_or ws 3 0) h.low h.high)

    gap_sound : Sound (feed_of ws).cursor
    unfolding feed_of
    gap_sound = sound_at (G.Skip (get_or ws 1 0) (gap_of (get_or ws 0 0 - 17) (get_or ws 2 0) (get_or ws 3 0))) gap_is h.room (h.none, omega (arith, h.few))

    gap_after_lem : (n p : ℕ) (a : Gap) (k : ℕ) → k < n → gap_after n a p k ≡ at_goal (G.Skip (n - k) a) (p + k)
    unfolding gap_after
    gap_after_lem n p a k l = simp (ne_eqb n k (λ e. omega arith))

    gap_kept : (feed_of (passed_over ws (length run))).cursor
        ≡ kept (G.Skip (get_or ws 1 0 - length run) (gap_of (get_or ws 0 0 - 17) (get_or ws 2 0) (get_or ws 3 0))) ((feed_of ws).cursor.place + length run) 0 0 ws (leb 32 (get_or ws 0 0))
    unfolding feed_of
    gap_kept =
        let g : Goal = G.Skip (get_or ws 1 0 - length run) (gap_of (get_or ws 0 0 - 17) (get_or ws 2 0) (get_or ws 3 0)) in
        let moved : get_or ws 4 0 + length run + get_or ws 5 0 * 4294967296 ≡ get_or ws 4 0 + get_or ws 5 0 * 4294967296 + length run = omega arith in
        ap (λ (t : ℕ). kept (goal_of t (get_or ws 1 0 - length run) (get_or ws 2 0) (get_or ws 3 0)) (get_or ws 4 0 + length run + get_or ws 5 0 * 4294967296) (get_or ws 6 0) (get_or ws 7 0) ws (leb 32 (get_or ws 0 0)))
        (plain_tag (get_or ws 0 0) (omega (arith, h.high)))
        ∙ ap (λ (x : Goal). kept x (get_or ws 4 0 + length run + get_or ws 5 0 * 4294967296) (get_or ws 6 0) (get_or ws 7 0) ws (leb 32 (get_or ws 0 0)))
        (gap_goal (get_or ws 0 0) (get_or ws 1 0 - length run) (get_or ws 2 0) (get_or ws 3 0) h.low h.high)
        ∙ ap (λ (x : ℕ). kept g x (get_or ws 6 0) (get_or ws 7 0) ws (leb 32 (get_or ws 0 0))) moved
        ∙ ap (λ (x : ℕ). kept g (get_or ws 4 0 + get_or ws 5 0 * 4294967296 + length run) x (get_or ws 7 0) ws (leb 32 (get_or ws 0 0))) h.none
        ∙ ap (λ (x : ℕ). kept g (get_or ws 4 0 + get_or ws 5 0 * 4294967296 + length run) 0 x ws (leb 32 (get_or ws 0 0))) h.zero

    pub fed_gap : FedLent ws run (record { answer = Ok None; taken = length run }) (passed_over ws (length run))
    unfolding feed_of
    fed_gap =
        let g : Goal = G.Skip (get_or ws 1 0 - length run) (gap_of (get_or ws 0 0 - 17) (get_or ws 2 0) (get_or ws 3 0)) in
        let p : ℕ = (feed_of ws).cursor.place + length run in
        in_place gap_sound fits_front
        (subst (λ (x : Cursor). Feeding (feed_of ws).cursor run (record { state = x; answer = Ok None; taken = length run })) (sym gap_kept)
        (other_feeding (at_goal g p) (get_or ws 8 0) (get_or ws 9 0) (get_or ws 10 0) (scan_of (get_or ws 11 0) (get_or ws 12 0)) (get_or ws 13 0) (leb 32 (get_or ws 0 0)) (omega arith)
        (rests_feeding gap_sound
        (gap_rests (feed_of ws).cursor run (get_or ws 1 0) (gap_of (get_or ws 0 0 - 17) (get_or ws 2 0) (get_or ws 3 0)) gap_sound gap_is o h.few
        (sym (gap_after_lem (get_or ws 1 0) (feed_of ws).cursor.place (gap_of (get_or ws 0 0 - 17) (get_or ws 2 0) (get_or ws 3 0)) (length run) h.few))))))
        front_stays

  -- a byte of a word
  module _ (h : WordAt ws (length run)) (b : get_or run 0 0 < 256) where
    gathers_goal : (t n m k : ℕ) → 1 ≤ t → t < 17 → gathers (goal_of t n m k) ≡ true
    gathers_goal t n m k l u = go (dec_lt t 10)
      where
        go : Dec (t < 10) → gathers (goal_of t n m k) ≡ true
        go (yes y) = ap gathers (word_goal t n m k l y)
        go (no x) = ap gathers (string_goal t n m k (omega arith) u)

    fits_gathers : (g : Goal) (st : Cursor) → gathers g ≡ true → st.have < 3 → st.value < 256 ^ st.have → Fits g st
    fits_gathers (G.Word f) st w c v = (omega arith, v)
    fits_gathers (G.String l) st w c v = (λ e. v, λ e. absurd (omega arith))
    fits_gathers (G.Skip n a) st w c v = says_no w
    fits_gathers G.Ended st w c v = says_no w
    fits_gathers (G.Stopped n) st w c v = says_no w

    goal : Goal
    goal = goal_of (get_or ws 0 0) (get_or ws 1 0) (get_or ws 2 0) (get_or ws 3 0)

    word_is : (feed_of ws).cursor.goal ≡ goal_of (get_or ws 0 0) (get_or ws 1 0) (get_or ws 2 0) (get_or ws 3 0)
    word_is = goal_is _ (omega (arith, h.high)) refl

    word_gathers : gathers (goal_of (get_or ws 0 0) (get_or ws 1 0) (get_or ws 2 0) (get_or ws 3 0)) ≡ true
    word_gathers = gathers_goal (get_or ws 0 0) (get_or ws 1 0) (get_or ws 2 0) (get_or ws 3 0) h.low h.high

    word_sound : Sound (feed_of ws).cursor
    unfolding feed_of
    word_sound = sound_at (goal_of (get_or ws 0 0) (get_or ws 1 0) (get_or ws 2 0) (get_or ws 3 0)) word_is h.room (fits_gathers (goal_of (get_or ws 0 0) (get_or ws 1 0) (get_or ws 2 0) (get_or ws 3 0)) (feed_of ws).cursor word_gathers h.few h.number)

    pub fed_byte : FedLent ws run (record { answer = Ok None; taken = length run }) (one_more ws (get_or run 0 0))
    unfolding feed_of
    fed_byte =
        in_place word_sound fits_front
        (other_feeding (gathered (feed_of ws).cursor.goal (feed_of ws).cursor.place (get_or ws 6 0 + 1) (get_or ws 7 0 * 256 + get_or run 0 0))
        (get_or ws 8 0) (get_or ws 9 0) (get_or ws 10 0) (scan_of (get_or ws 11 0) (get_or ws 12 0)) (get_or ws 13 0) (leb 32 (get_or ws 0 0)) (omega (arith, h.few))
        (rests_feeding word_sound
        (byte_rests (feed_of ws).cursor run (feed_of ws).cursor.goal word_sound refl (ap gathers word_is ∙ word_gathers) h.few h.one b refl)))
        front_stays

  -- within a string
  module _ (o : 0 < length run) (h : StringAt ws) where
    string_is : (feed_of ws).cursor.goal ≡ G.String (string_at ws)
    string_is = goal_is _ (omega (arith, h.high)) (string_goal (get_or ws 0 0) (get_or ws 1 0) (get_or ws 2 0) (get_or ws 3 0) h.low h.high)

    is_inside : Inside (string_at ws) (feed_of ws).cursor
    unfolding feed_of
    is_inside = test_inside (string_at ws) (feed_of ws).cursor h.parts

    string_sound : Sound (feed_of ws).cursor
    unfolding feed_of
    string_sound = sound_at (G.String (string_at ws)) string_is h.room (λ e. absurd (omega (arith, is_inside.four)), λ e. is_inside)

    -- a cursor in the string, by what a run changes
    abbrev strung : Goal → (c i m z : ℕ) → Scan → (zeros : ℕ) → Bool → Cursor
    strung g c i m z q zeros bad = record { goal = g; place = (feed_of ws).cursor.place; have = c; value = get_or ws 7 0; at = i; todo = m; pad = z; scan = q; zeros = zeros; bad = bad }

    contents_kept : scan_of (scan_word (scan_over ws run)) (scan_over ws run).start ≡ scan_over ws run → (feed_of (contents_over ws run)).cursor
        ≡ strung (G.String (string_at ws)) 4 (get_or ws 8 0 + length run) (get_or ws 9 0 - length run) (get_or ws 10 0) (scan_over ws run) (get_or ws 13 0) (leb 32 (get_or ws 0 0))
    unfolding feed_of
    contents_kept e =
        let i : ℕ = get_or ws 8 0 + length run in
        let m : ℕ = get_or ws 9 0 - length run in
        ap (λ (x : Goal). strung x (get_or ws 6 0) i m (get_or ws 10 0) (scan_of (scan_word (scan_over ws run)) (scan_over ws run).start) (get_or ws 13 0) (leb 32 (get_or ws 0 0))) string_is
        ∙ ap (λ (x : ℕ). strung (G.String (string_at ws)) x i m (get_or ws 10 0) (scan_of (scan_word (scan_over ws run)) (scan_over ws run).start) (get_or ws 13 0) (leb 32 (get_or ws 0 0))) is_inside.four
        ∙ ap (λ (x : Scan). strung (G.String (string_at ws)) 4 i m (get_or ws 10 0) x (get_or ws 13 0) (leb 32 (get_or ws 0 0))) e

    pub fed_contents : {after : List ℕ} → length run ≤ get_or ws 9 0 → length run < get_or ws 9 0 + get_or ws 10 0 → OverContents ws run after
        → FedLent ws run (record { answer = Ok None; taken = length run }) after
    unfolding feed_of
    fed_contents {after} few more c =
        subst (λ (x : List ℕ). FedLent ws run (record { answer = Ok None; taken = length run }) x) (sym c.are)
        (in_place string_sound fits_front
        (rests_feeding string_sound
        (contents_rests (feed_of ws).cursor run (string_at ws) string_sound string_is (omega (arith, is_inside.four)) o few more refl (contents_kept c.back)))
        front_stays)

    zero_kept : get_or ws 9 0 ≡ 0 → (feed_of (zero_over ws)).cursor
        ≡ strung (G.String (string_at ws)) 4 (get_or ws 8 0) 0 (get_or ws 10 0 - 1) (scan_of (get_or ws 11 0) (get_or ws 12 0)) (get_or ws 13 0 + 1) false
    unfolding feed_of
    zero_kept t =
        let q : Scan = scan_of (get_or ws 11 0) (get_or ws 12 0) in
        let z : ℕ = get_or ws 10 0 - 1 in
        let zeros : ℕ = get_or ws 13 0 + 1 in
        ap (λ (x : Goal). strung x (get_or ws 6 0) (get_or ws 8 0) (get_or ws 9 0) z q zeros (leb 32 (get_or ws 0 0))) string_is
        ∙ ap (λ (x : ℕ). strung (G.String (string_at ws)) x (get_or ws 8 0) (get_or ws 9 0) z q zeros (leb 32 (get_or ws 0 0))) is_inside.four
        ∙ ap (λ (x : ℕ). strung (G.String (string_at ws)) 4 (get_or ws 8 0) x z q zeros (leb 32 (get_or ws 0 0))) t
        ∙ ap (λ (x : Bool). strung (G.String (string_at ws)) 4 (get_or ws 8 0) 0 z q zeros x) (lt-leb 32 (get_or ws 0 0) (omega (arith, h.high)))

    pub fed_zero : get_or ws 9 0 ≡ 0 → 1 < get_or ws 10 0 → length run ≡ 1 → get_or run 0 0 ≡ 0 → FedLent ws run (record { answer = Ok None; taken = length run }) (zero_over ws)
    unfolding feed_of
    fed_zero t p n z =
        in_place string_sound fits_front
        (rests_feeding string_sound
        (zero_rests (feed_of ws).cursor run (string_at ws) string_sound string_is is_inside.four t p (lt-leb 32 (get_or ws 0 0) (omega (arith, h.high))) n z (zero_kept t)))
        front_stays

-- how far contents go, and how many zeros a pad has
pub string_small : (ws : List ℕ) → StringAt ws → (get_or ws 8 0 + get_or ws 9 0 ≤ 131072) × (get_or ws 13 0 + get_or ws 10 0 ≤ 3)
unfolding feed_of
string_small ws h =
    let i : Inside (string_at ws) (feed_of ws).cursor = test_inside (string_at ws) (feed_of ws).cursor h.parts in
    (omega (arith, i.parts, i.limited, limit_most (string_at ws)), i.padding)

-- the first run
module _ (ws run : List ℕ) (u : Unread ws) where
  first_is : (feed_of ws).cursor.goal ≡ G.Word (F.Start (edition_of (get_or ws 0 0)))
  unfolding feed_of
  first_is = go (get_or ws 0 0) u.low u.high
    where
      go : (t : ℕ) → 1 ≤ t → t < 3 → goal_of (tag_in t) (get_or ws 1 0) (get_or ws 2 0) (get_or ws 3 0) ≡ G.Word (F.Start (edition_of t))
      go zero l h = absurd (omega arith)
      go (suc zero) l h = refl
      go (suc (suc zero)) l h = refl
      go (suc (suc (suc t))) l h = absurd (omega arith)

  first_place : (feed_of ws).cursor.place ≡ 0
  unfolding feed_of
  first_place = omega (arith, u.place, u.near)

  first_have : (feed_of ws).cursor.have ≡ 0
  unfolding feed_of
  first_have = u.none

  first_sound : Sound (feed_of ws).cursor
  unfolding feed_of
  first_sound = record {
    bounded = subst (λ (x : Goal). Bounded x (feed_of ws).cursor.place) (sym first_is) (omega (arith, first_place));
    fits = subst (λ (x : Goal). Fits x (feed_of ws).cursor) (sym first_is) (omega (arith, u.none), subst (λ (c : ℕ). get_or ws 7 0 < 256 ^ c) (sym u.none) (omega (arith, u.zero)));
  }

  first_front : (feed_of ws).front ≡ no_front
  unfolding feed_of
  first_front = ap (λ (x : ℕ). record { have = x; value = get_or ws 15 0 }) u.front ∙ ap (λ (x : ℕ). record { have = 0; value = x }) u.value

  first_fits : FrontFits (feed_of ws).front
  first_fits = subst FrontFits (sym first_front) no_front_lem

  front_is : {w m : ℕ} → Reads word run 0 (taken w m) → FrontOver (feed_of ws).front run (record { have = 4; value = w })
  front_is {w} {m} d =
      let ends = ends_word {k = 3} d in
      let four : 4 ≤ length run = omega (arith, ends.0, ends.1) in
      record {
        is = ap (λ (x : ℕ). record { have = 4; value = x }) (number_value d) ∙ sym (front_first run four) ∙ ap (λ (x : Front). front_after x run) (sym first_front);
        fits = record { four = omega arith; number = λ l. absurd (omega arith) };
      }

  module _ {w m : ℕ} (d : Reads word run 0 (taken w m)) where
    closing : (g : Goal) (t n p : ℕ) → goal_of t n (get_or ws 2 0) (get_or ws 3 0) ≡ g → t < 32 → {a : Answer} {k : ℕ} → Feeding (feed_of ws).cursor run (record { state = at_goal g p; answer = a; taken = k })
        → FedLent ws run (record { answer = a; taken = k }) (closed ws t n p w)
    unfolding feed_of
    closing g t n p e l {a} {k} f =
        let back : (feed_of (closed ws t n p w)).cursor ≡ kept g p 0 0 ws (leb 32 t) =
        ap (λ (x : ℕ). kept (goal_of x n (get_or ws 2 0) (get_or ws 3 0)) (p % 4294967296 + p / 4294967296 * 4294967296) 0 0 ws (leb 32 t)) (plain_tag t l)
        ∙ ap (λ (x : Goal). kept x (p % 4294967296 + p / 4294967296 * 4294967296) 0 0 ws (leb 32 t)) e
        ∙ ap (λ (x : ℕ). kept g x 0 0 ws (leb 32 t)) (place_back p) in
        in_place first_sound first_fits
        (subst (λ (x : Cursor). Feeding (feed_of ws).cursor run (record { state = x; answer = a; taken = k })) (sym back)
        (other_feeding (at_goal g p) (get_or ws 8 0) (get_or ws 9 0) (get_or ws 10 0) (scan_of (get_or ws 11 0) (get_or ws 12 0)) (get_or ws 13 0) (leb 32 t) (omega arith) f))
        (front_is d)

    wanted : wants (feed_of ws).cursor.goal ≡ true
    wanted = wants_at (feed_of ws).cursor (G.Word (F.Start (edition_of (get_or ws 0 0)))) first_is refl

    pub first_ended : {n : ℕ} → at_once (edition_of (get_or ws 0 0)) run ≡ Ok (Some n) → FedLent ws run (record { answer = Ok (Some n); taken = n }) (closed ws 21 0 n w)
    first_ended {n} e =
        closing G.Ended 21 0 n refl (omega arith) (fed_through first_sound wanted (once_ended (edition_of (get_or ws 0 0)) (feed_of ws).cursor run first_sound first_is first_have n e))

    pub first_refused : {r : Refusal} → at_once (edition_of (get_or ws 0 0)) run ≡ Err r → FedLent ws run (record { answer = Err r; taken = length run }) (closed ws 22 r.number r.place w)
    first_refused {r} e =
        closing (G.Stopped r.number) 22 r.number r.place refl (omega arith) (fed_through first_sound wanted (once_refused (edition_of (get_or ws 0 0)) (feed_of ws).cursor run first_sound first_is first_have r e))

-- the bytes that are missing, by the words
missing_goal : (t n m k : ℕ) (st : Cursor) → missing_by t n st.have st.todo st.pad ≡ missing_of (goal_of t n m k) st
missing_goal t n m k st = go (eqb t 0) (ltb t 10) (ltb t 17) (ltb t 21) (eqb t 21) (eqb t 22)
  where
    go : (a b c d e f : Bool) → cond a 0 (cond b (4 - st.have) (cond c (cond (leb st.have 3) (4 - st.have) (st.todo + st.pad)) (cond d n 0)))
        ≡ missing_of (cond a (G.Skip 0 P.Offset) (cond b (G.Word (word_of (t - 1) m k)) (cond c (G.String (string_of (t - 10) k)) (cond d (G.Skip n (gap_of (t - 17) m k)) (cond e G.Ended (cond f (G.Stopped n) (G.Skip 0 P.Offset))))))) st
    go true b c d e f = refl
    go false true c d e f = refl
    go false false true d e f = refl
    go false false false true e f = refl
    go false false false false true f = refl
    go false false false false false true = refl
    go false false false false false false = refl

pub missing_by_lem : (ws : List ℕ) → missing_by (tag_in (get_or ws 0 0)) (get_or ws 1 0) (get_or ws 6 0) (get_or ws 9 0) (get_or ws 10 0) ≡ missing_in (feed_of ws).cursor
unfolding missing_in feed_of
missing_by_lem ws = missing_goal (tag_in (get_or ws 0 0)) (get_or ws 1 0) (get_or ws 2 0) (get_or ws 3 0) (feed_of ws).cursor

-- at a word or a length
pub missing_word : (t n c m z : ℕ) {k : ℕ} → (t ≡ 0 → ⊥) → t < 17 → c ≤ 3 → k ≡ 4 - c → k ≡ missing_by t n c m z
missing_word t n c m z h l f e = e ∙ sym (go (dec_lt t 10))
  where
    go : Dec (t < 10) → missing_by t n c m z ≡ 4 - c
    go (yes y) = simp (ne_eqb t 0 h, lt-ltb t 10 y)
    go (no x) = simp (ne_eqb t 0 h, le-ltb t 10 (omega arith), lt-ltb t 17 l, le-leb c 3 f)

-- no word has more bytes
pub missing_none : (t n c m z : ℕ) → (t ≡ 0 → ⊥) → t < 10 → 4 ≤ c → 0 ≡ missing_by t n c m z
missing_none t n c m z h l f = let none : 0 ≡ 4 - c = omega arith in none ∙ sym (simp (ne_eqb t 0 h, lt-ltb t 10 l))

-- within a string
pub missing_string : (t n c m z : ℕ) → 10 ≤ t → t < 17 → 3 < c → m + z ≡ missing_by t n c m z
missing_string t n c m z h l f = sym (simp (ne_eqb t 0 (λ e. omega arith), le-ltb t 10 h, lt-ltb t 17 l, lt-leb c 3 f))

-- the same words and the same answer, however they were made
pub fed_as : {ws run after words : List ℕ} {r s : Said} → r ≡ s → after ≡ words → FedLent ws run s words → FedLent ws run r after
fed_as {ws} {run} {after} {words} {r} {s} e f h =
    subst (λ (x : Said). FedLent ws run x after) (sym e) (subst (λ (x : List ℕ). FedLent ws run s x) (sym f) h)
