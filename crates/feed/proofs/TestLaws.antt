-- The test is true of sound states and of no others.
use Prim.Native.Nat.{ℕ, ◌+◌, ◌^◌, ◌≤◌, ◌<◌}
use mathlib.Core.List.{List}
use mathlib.Core.Path.{◌≡◌, refl, ap, ◌∙◌}
use mathlib.Core.Bool.{Bool, true, false, cond, ◌&&◌}
use native.Mathlib.Omega.{arith}
use native.Mathlib.Decide.{dec_le}
use borrow.Author.Tests.{le-leb, lt-leb, lt-ltb, eq-eqb, leb-true, leb-false, ltb-true, eqb-true, eqb-false}
use lib.Dec.{leb, ltb, eqb}
use Rattle.xdr.specs.Pad.{padded}
use Rattle.feed.specs.Rest.{limit_of}
use Rattle.feed.specs.Sound.{Bounded, Inside, Fits, Sound, room_for, bounded_test, word_test, inside_test, fits_test, is_sound_cursor, front_test, is_sound}
use Rattle.feed.specs.Front.{FrontFits, FrontOver}
use Rattle.feed.specs.Feeding.{Feeding, led_by, FedBy}
use Rattle.feed.specs.declared.state.Cursor.{Cursor}
use Rattle.feed.specs.declared.state.Front.{Front}
use Rattle.feed.specs.declared.state.Feed.{Feed}
use Rattle.feed.specs.declared.state.Fed.{Fed}
use Rattle.feed.specs.declared.state.Goal.{Goal}
use Rattle.feed.specs.declared.state.Goal.TheVariants as G
use Rattle.feed.specs.declared.state.StringField.{StringField}

both : {a b : Bool} → a ≡ true → b ≡ true → (a && b) ≡ true
both {a} {b} e f = ap (λ (x : Bool). x && b) e ∙ f

first : (a b : Bool) → (a && b) ≡ true → a ≡ true
first true b e = refl
first false b e = e

second : (a b : Bool) → (a && b) ≡ true → b ≡ true
second true b e = e
second false b e = let z : ◌≡◌ {A = ℕ} 0 1 = cc in absurd (omega arith)

-- no test is both
pub differ : {b : Bool} → b ≡ true → b ≡ false → ⊥
differ {b} e f = let z : ◌≡◌ {A = ℕ} 0 1 = cc in omega arith

-- the test is true of sound states

room : (p m : ℕ) → p + m ≤ 22000000 → room_for p m ≡ true
room p m h = both (le-leb p 22000000 (omega arith)) (le-leb (p + m) 22000000 h)

bounded_test_lem : (g : Goal) (p : ℕ) → Bounded g p → bounded_test g p ≡ true
bounded_test_lem (G.Word f) p h = room p _ h
bounded_test_lem (G.String l) p h = room p _ h
bounded_test_lem (G.Skip n a) p h = room p _ h
bounded_test_lem G.Ended p h = refl
bounded_test_lem (G.Stopped n) p h = refl

word_test_lem : (c v : ℕ) → c ≤ 3 → v < 256 ^ c → word_test c v ≡ true
word_test_lem c v h k = both (le-leb c 3 h) (lt-ltb v (256 ^ c) k)

inside_test_lem : (l : StringField) (st : Cursor) → Inside l st → inside_test l st ≡ true
inside_test_lem l st i =
    both (eq-eqb st.have 4 i.four)
    (both (le-leb st.value (limit_of l) i.limited)
    (both (eq-eqb (st.at + st.todo) st.value i.parts)
    (both (le-leb (st.todo + st.pad) (padded st.value) i.within)
    (both (le-leb 1 (st.todo + st.pad) i.missing) (le-leb (st.zeros + st.pad) 3 i.padding)))))

fits_test_lem : (g : Goal) (st : Cursor) → Fits g st → fits_test g st ≡ true
fits_test_lem (G.Word f) st h = word_test_lem st.have st.value h.0 h.1
fits_test_lem (G.String l) st h = go (dec_le st.have 3)
  where
    go : Dec (st.have ≤ 3) → fits_test (G.String l) st ≡ true
    go (yes y) = ap (λ (x : Bool). cond x (word_test st.have st.value) (inside_test l st)) (le-leb st.have 3 y) ∙ word_test_lem st.have st.value y (h.0 y)
    go (no n) = ap (λ (x : Bool). cond x (word_test st.have st.value) (inside_test l st)) (lt-leb st.have 3 (omega arith)) ∙ inside_test_lem l st (h.1 (omega arith))
fits_test_lem (G.Skip n a) st h = both (eq-eqb st.have 0 h.0) (le-leb 1 n h.1)
fits_test_lem G.Ended st h = eq-eqb st.have 0 h
fits_test_lem (G.Stopped n) st h = both (eq-eqb st.have 0 h.0) (le-leb 2 n h.1)

pub sound_test : {st : Cursor} → Sound st → is_sound_cursor st ≡ true
unfolding is_sound_cursor
sound_test {st} h = both (bounded_test_lem st.goal st.place h.bounded) (fits_test_lem st.goal st h.fits)

-- and of no others

pub has_room_lem : (p m : ℕ) → room_for p m ≡ true → p + m ≤ 22000000
has_room_lem p m e = leb-true (p + m) 22000000 (second (leb p 22000000) (leb (p + m) 22000000) e)

test_bounded : (g : Goal) (p : ℕ) → bounded_test g p ≡ true → Bounded g p
test_bounded (G.Word f) p e = has_room_lem p _ e
test_bounded (G.String l) p e = has_room_lem p _ e
test_bounded (G.Skip n a) p e = has_room_lem p _ e
test_bounded G.Ended p e = tt
test_bounded (G.Stopped n) p e = tt

pub test_word : (c v : ℕ) → word_test c v ≡ true → (c ≤ 3) × (v < 256 ^ c)
test_word c v e = (leb-true c 3 (first (leb c 3) (ltb v (256 ^ c)) e), ltb-true v (256 ^ c) (second (leb c 3) (ltb v (256 ^ c)) e))

pub test_inside : (l : StringField) (st : Cursor) → inside_test l st ≡ true → Inside l st
test_inside l st e =
    let a = second (eqb st.have 4) _ e in
    let b = second (leb st.value (limit_of l)) _ a in
    let c = second (eqb (st.at + st.todo) st.value) _ b in
    let d = second (leb (st.todo + st.pad) (padded st.value)) _ c in
    record {
      four = eqb-true st.have 4 (first (eqb st.have 4) _ e);
      limited = leb-true st.value (limit_of l) (first (leb st.value (limit_of l)) _ a);
      parts = eqb-true (st.at + st.todo) st.value (first (eqb (st.at + st.todo) st.value) _ b);
      within = leb-true (st.todo + st.pad) (padded st.value) (first (leb (st.todo + st.pad) (padded st.value)) _ c);
      missing = leb-true 1 (st.todo + st.pad) (first (leb 1 (st.todo + st.pad)) _ d);
      padding = leb-true (st.zeros + st.pad) 3 (second (leb 1 (st.todo + st.pad)) _ d);
    }

test_fits : (g : Goal) (st : Cursor) → fits_test g st ≡ true → Fits g st
test_fits (G.Word f) st e = test_word st.have st.value e
test_fits (G.String l) st e = go (leb st.have 3) refl e
  where
    go : (b : Bool) → leb st.have 3 ≡ b → cond b (word_test st.have st.value) (inside_test l st) ≡ true → Fits (G.String l) st
    go true q w = (λ h. (test_word st.have st.value w).1, λ h. absurd (omega (arith, leb-true st.have 3 q)))
    go false q w = (λ h. absurd (omega (arith, leb-false st.have 3 q)), λ h. test_inside l st w)
test_fits (G.Skip n a) st e = (eqb-true st.have 0 (first (eqb st.have 0) (leb 1 n) e), leb-true 1 n (second (eqb st.have 0) (leb 1 n) e))
test_fits G.Ended st e = eqb-true st.have 0 e
test_fits (G.Stopped n) st e = (eqb-true st.have 0 (first (eqb st.have 0) (leb 2 n) e), leb-true 2 n (second (eqb st.have 0) (leb 2 n) e))

pub test_sound : (st : Cursor) → is_sound_cursor st ≡ true → Sound st
unfolding is_sound_cursor
test_sound st e = record {
  bounded = test_bounded st.goal st.place (first (bounded_test st.goal st.place) (fits_test st.goal st) e);
  fits = test_fits st.goal st (second (bounded_test st.goal st.place) (fits_test st.goal st) e);
}

-- the same of first bytes, and of the whole state

front_test_lem : (f : Front) → FrontFits f → front_test f.have f.value ≡ true
front_test_lem f h = go (eqb f.have 4) refl
  where
    go : (b : Bool) → eqb f.have 4 ≡ b → cond b true (word_test f.have f.value) ≡ true
    go true e = refl
    go false e = let few : f.have ≤ 3 = omega (arith, h.four, eqb-false f.have 4 e) in word_test_lem f.have f.value few (h.number few)

test_front : (f : Front) → front_test f.have f.value ≡ true → FrontFits f
test_front f e = go (eqb f.have 4) refl e
  where
    go : (b : Bool) → eqb f.have 4 ≡ b → cond b true (word_test f.have f.value) ≡ true → FrontFits f
    go true q w = let all : f.have ≡ 4 = eqb-true f.have 4 q in record { four = omega arith; number = λ l. absurd (omega arith) }
    go false q w = let h = test_word f.have f.value w in record { four = omega (arith, h.0); number = λ l. h.1 }

pub feed_test : (st : Feed) → Sound st.cursor → FrontFits st.front → is_sound st ≡ true
feed_test st s f = both (sound_test s) (front_test_lem st.front f)

pub test_feed : (st : Feed) → is_sound st ≡ true → Sound st.cursor × FrontFits st.front
test_feed st e = (
  test_sound st.cursor (first (is_sound_cursor st.cursor) (front_test st.front.have st.front.value) e),
  test_front st.front (second (is_sound_cursor st.cursor) (front_test st.front.have st.front.value) e),
)

-- what feeding a sound state gives
pub fed_by : {st : Feed} {run : List ℕ} {r : Fed} → is_sound st ≡ true → Feeding st.cursor run (led_by r) → FrontOver st.front run r.state.front → FedBy st run r
fed_by {st} {run} {r} s f g = record { feeding = λ e. f; fronting = λ e. g; refusing = λ e. absurd (differ s e) }
