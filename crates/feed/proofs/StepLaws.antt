-- A step from a state keeps what it stands for.
use Rattle.std.specs.Prelude.{Ok, Err, Some, None}
use Prim.Native.Nat.{ℕ, zero, suc, ◌+◌, ◌*◌, ◌-◌, ◌^◌, ◌≤◌, ◌<◌}
use mathlib.Core.List.{List, [], ◌∷◌, ◌++◌}
use mathlib.Core.Path.{◌≡◌, refl, sym, ap, subst, ◌∙◌}
use mathlib.Core.Bool.{Bool, true, false, cond}
use native.Mathlib.Omega.{arith}
use native.Mathlib.Nat.{add-zero}
use native.Mathlib.Numerals.{add-one}
use native.Mathlib.Decide.{dec_le, dec_lt}
use borrow.Author.Tests.{le-leb, lt-leb, lt-ltb, le-ltb, ne_eqb, eqb-true}
use lib.ListN.{length, drop, length-append}
use lib.Dec.{leb, ltb, eqb, eqb-suc-zero}
use Rattle.xdr.specs.Number.{big_endian}
use Rattle.xdr.specs.Pad.{padded}
use Rattle.feed.specs.Onward.{skipping}
use Rattle.feed.specs.Rest.{rest_of_word, rest_of_string, rest_after, rest_of, buffered, scan_after, fresh, contents_from, rule_of, limit_of, behind_string, rest_from, rest, gathered, at_goal, stopped}
use Rattle.feed.specs.Sound.{Inside, Fits}
use Rattle.feed.specs.Steps.Next.{behind_gap, after_word, settled, after_length, bad_after, inside_after, gap_after, goal_after, stepped, wants, goal_says, says}
use Rattle.feed.specs.declared.state.Cursor.{Cursor}
use Rattle.feed.specs.declared.state.Scan.{Scan}
use Rattle.feed.specs.declared.state.Goal.{Goal}
use Rattle.feed.specs.declared.state.Goal.TheVariants as G
use Rattle.feed.specs.declared.state.WordField.{WordField}
use Rattle.feed.specs.declared.state.StringField.{StringField}
use Rattle.feed.specs.declared.state.Gap.{Gap}
use Rattle.feed.proofs.StringLaws.{contents_byte, pad_byte, contents_whole, contents_waiting}
use Rattle.feed.proofs.GoalLaws.{branch, refused_is, field_word, string_word, gap_goal, string_whole, field_short, string_short}
use Rattle.feed.proofs.BufferLaws.{length_buffered, buffered_more, buffered_word, skipping_more}

-- a string, whole or not
pub settled_rest : (l : StringField) (p n i c z : ℕ) (q : Scan) (zeros : ℕ) (bad : Bool) (t : List ℕ)
    → contents_from (rule_of l) (rest_of (behind_string l)) p n i c z q zeros bad t ≡ rest (settled l p n i c z q zeros bad) t
unfolding rest settled
settled_rest l p n i zero zero q zeros bad t =
    contents_whole (rule_of l) (rest_of (behind_string l)) p n i q zeros bad t ∙ string_whole l p n zeros q t
settled_rest l p n i zero (suc z) q zeros bad t = rw (ne_eqb (0 + suc z) 0 (λ e. omega arith)) refl
settled_rest l p n i (suc c) z q zeros bad t = rw (ne_eqb (suc c + z) 0 (λ e. omega arith)) refl

-- a byte of it
pub inside_step : (l : StringField) (st : Cursor) (b : ℕ) (t : List ℕ) → 1 ≤ st.todo + st.pad
    → contents_from (rule_of l) (rest_of (behind_string l)) st.place st.value st.at st.todo st.pad st.scan st.zeros st.bad (b ∷ t)
    ≡ rest (inside_after l st b) t
unfolding inside_after
inside_step l st b t h = go st.todo refl st.pad refl
  where
    go : (c : ℕ) → st.todo ≡ c → (z : ℕ) → st.pad ≡ z
        → contents_from (rule_of l) (rest_of (behind_string l)) st.place st.value st.at c z st.scan st.zeros st.bad (b ∷ t)
        ≡ rest (cond (eqb c 0)
        (settled l st.place st.value st.at 0 (z - 1) st.scan (cond (bad_after st.bad b) st.zeros (st.zeros + 1)) (bad_after st.bad b))
        (settled l st.place st.value (st.at + 1) (c - 1) z (scan_after (rule_of l) st.scan st.at b) st.zeros st.bad)) t
    go zero e zero f = absurd (omega arith)
    go zero e (suc z) f =
        let less : suc z - 1 ≡ z = omega arith in
        rw less
        (pad_byte (rule_of l) (rest_of (behind_string l)) st.place st.value st.at z st.scan st.zeros st.bad b t
        ∙ settled_rest l st.place st.value st.at 0 z st.scan (cond (bad_after st.bad b) st.zeros (st.zeros + 1)) (bad_after st.bad b) t)
    go (suc c) e z f =
        let less : suc c - 1 ≡ c = omega arith in
        let next : st.at + 1 ≡ suc st.at = add-one st.at in
        rw (eqb-suc-zero c, less, next)
        (contents_byte (rule_of l) (rest_of (behind_string l)) st.place st.value st.at z st.scan st.zeros st.bad b t c
        ∙ settled_rest l st.place st.value (suc st.at) c z (scan_after (rule_of l) st.scan st.at b) st.zeros st.bad t)

-- after a length word
pub length_rest : (l : StringField) (p : ℕ) (s : List ℕ) → 4 ≤ length s → rest_of_string l p s ≡ rest (after_length l p (big_endian 4 s)) (drop 4 s)
unfolding after_length
length_rest l p s h =
    string_word l p s h
    ∙ branch (leb (big_endian 4 s) (limit_of l)) (settled l p (big_endian 4 s) 0 (big_endian 4 s) (padded (big_endian 4 s) - big_endian 4 s) fresh 0 false) (stopped 5 p) (drop 4 s)
    (settled_rest l p (big_endian 4 s) 0 (big_endian 4 s) (padded (big_endian 4 s) - big_endian 4 s) fresh 0 false (drop 4 s))
    (refused_is 5 p (drop 4 s))

-- a byte of a word
gather : (g : Goal) (p c v b : ℕ) (t : List ℕ) → c < 3 → b < 256 → rest_of g p (buffered c v ++ (b ∷ t)) ≡ rest (gathered g p (c + 1) (v * 256 + b)) t
unfolding rest
gather g p c v b t h k =
    rw (le-leb (c + 1) 3 (omega arith), add-one c) (ap (rest_of g p) (buffered_more c v b t k))

four_there : (v b : ℕ) (t : List ℕ) → 4 ≤ length (buffered 3 v ++ (b ∷ t))
four_there v b t = omega arith

small : (c v : ℕ) → c ≡ 3 → v < 256 ^ c → v < 16777216
small c v e h = subst (λ (x : ℕ). v < 256 ^ x) e h

pub field_step : (f : WordField) (p c v b : ℕ) (t : List ℕ) → c ≤ 3 → v < 256 ^ c → b < 256
    → rest_of_word f p (buffered c v ++ (b ∷ t)) ≡ rest (cond (ltb c 3) (gathered (G.Word f) p (c + 1) (v * 256 + b)) (after_word f p (v * 256 + b))) t
field_step f p c v b t h s k = go (dec_lt c 3)
  where
    go : Dec (c < 3) → rest_of_word f p (buffered c v ++ (b ∷ t)) ≡ rest (cond (ltb c 3) (gathered (G.Word f) p (c + 1) (v * 256 + b)) (after_word f p (v * 256 + b))) t
    go (yes y) = rw (lt-ltb c 3 y) (gather (G.Word f) p c v b t y k)
    go (no n) =
        let e : c ≡ 3 = omega arith in
        rw (le-ltb c 3 (omega arith))
        (ap (λ (x : ℕ). rest_of_word f p (buffered x v ++ (b ∷ t))) e
        ∙ field_word f p (buffered 3 v ++ (b ∷ t)) (four_there v b t)
        ∙ ap (λ (x : ℕ). rest (after_word f p x) t) (buffered_word v b t (small c v e s)))

pub string_step : (l : StringField) (p c v b : ℕ) (t : List ℕ) → c ≤ 3 → v < 256 ^ c → b < 256
    → rest_of_string l p (buffered c v ++ (b ∷ t)) ≡ rest (cond (ltb c 3) (gathered (G.String l) p (c + 1) (v * 256 + b)) (after_length l p (v * 256 + b))) t
string_step l p c v b t h s k = go (dec_lt c 3)
  where
    go : Dec (c < 3) → rest_of_string l p (buffered c v ++ (b ∷ t)) ≡ rest (cond (ltb c 3) (gathered (G.String l) p (c + 1) (v * 256 + b)) (after_length l p (v * 256 + b))) t
    go (yes y) = rw (lt-ltb c 3 y) (gather (G.String l) p c v b t y k)
    go (no n) =
        let e : c ≡ 3 = omega arith in
        rw (le-ltb c 3 (omega arith))
        (ap (λ (x : ℕ). rest_of_string l p (buffered x v ++ (b ∷ t))) e
        ∙ length_rest l p (buffered 3 v ++ (b ∷ t)) (four_there v b t)
        ∙ ap (λ (x : ℕ). rest (after_length l p x) t) (buffered_word v b t (small c v e s)))

-- bytes that are passed over
pub gap_step : (n : ℕ) (a : Gap) (p k : ℕ) (q t : List ℕ) → length q ≡ k → k ≤ n → skipping n (rest_after a) p (q ++ t) ≡ rest (gap_after n a p k) t
unfolding gap_after rest
gap_step n a p k q t e h = go (eqb n k) refl
  where
    all : k + (n - k) ≡ n
    all = omega arith

    moved : skipping n (rest_after a) p (q ++ t) ≡ skipping (n - k) (rest_after a) (p + k) t
    moved = ap (λ (x : ℕ). skipping x (rest_after a) p (q ++ t)) (sym all) ∙ skipping_more (n - k) k (rest_after a) p q t e

    go : (b : Bool) → eqb n k ≡ b → skipping n (rest_after a) p (q ++ t) ≡ rest (cond b (at_goal (behind_gap a) (p + k)) (at_goal (G.Skip (n - k) a) (p + k))) t
    go true f =
        let z : n - k ≡ 0 = omega (arith, eqb-true n k f) in
        moved ∙ ap (λ (x : ℕ). skipping x (rest_after a) (p + k) t) z
        ∙ rw (le-leb 0 (length t) (omega arith), add-zero) (gap_goal a (p + k) t)
    go false f = moved

few : (c v : ℕ) → c ≤ 3 → length (buffered c v ++ []) < 4
few c v h = rw (length-append (buffered c v) [], length_buffered c v) (omega arith)

-- one step, by the goal
goal_step : (g : Goal) (st : Cursor) (b : ℕ) (t : List ℕ) → Fits g st → b < 256 → st.goal ≡ g → rest_from g st (b ∷ t) ≡ rest (goal_after g st b) t
unfolding rest
goal_step (G.Word f) st b t h k e =
    rw (le-leb st.have 3 h.0) (field_step f st.place st.have st.value b t h.0 h.1 k)
goal_step (G.String l) st b t h k e = go (dec_le st.have 3)
  where
    go : Dec (st.have ≤ 3) → rest_from (G.String l) st (b ∷ t) ≡ rest (goal_after (G.String l) st b) t
    go (yes y) =
        let four : st.have < 4 = omega arith in
        rw (le-leb st.have 3 y, lt-ltb st.have 4 four) (string_step l st.place st.have st.value b t y (h.0 y) k)
    go (no n) =
        let i : Inside l st = h.1 (omega arith) in
        let three : 3 ≤ st.have = omega arith in
        let four : 4 ≤ st.have = omega arith in
        rw (lt-leb st.have 3 (omega arith), le-ltb st.have 3 three, le-ltb st.have 4 four) (inside_step l st b t i.missing)
goal_step (G.Skip n a) st b t h k e =
    ap (λ (x : ℕ). cond (leb x 3) (skipping n (rest_after a) st.place (buffered x st.value ++ (b ∷ t))) (Ok None)) h.0
    ∙ gap_step n a st.place 1 (b ∷ []) t refl h.1
goal_step G.Ended st b t h k e =
    ap (λ (x : ℕ). cond (leb x 3) (Ok (Some st.place)) (Ok None)) h
    ∙ sym (ap (λ (g : Goal). rest_from g st t) e ∙ ap (λ (x : ℕ). cond (leb x 3) (Ok (Some st.place)) (Ok None)) h)
goal_step (G.Stopped n) st b t h k e =
    ap (λ (x : ℕ). cond (leb x 3) (Err (record { number = n; place = st.place })) (Ok None)) h.0
    ∙ sym (ap (λ (g : Goal). rest_from g st t) e ∙ ap (λ (x : ℕ). cond (leb x 3) (Err (record { number = n; place = st.place })) (Ok None)) h.0)

pub step_rest : (st : Cursor) (b : ℕ) (t : List ℕ) → Fits st.goal st → b < 256 → rest st (b ∷ t) ≡ rest (stepped st b) t
unfolding stepped rest
step_rest st b t h k = goal_step st.goal st b t h k refl

-- nothing to come: a state that isn't at its end waits
goal_says_lem : (g : Goal) (st : Cursor) → Fits g st → rest_from g st [] ≡ goal_says g st.place
goal_says_lem (G.Word f) st h =
    rw (le-leb st.have 3 h.0) (field_short f st.place (buffered st.have st.value ++ []) (few st.have st.value h.0))
goal_says_lem (G.String l) st h = go (dec_le st.have 3)
  where
    go : Dec (st.have ≤ 3) → rest_from (G.String l) st [] ≡ Ok None
    go (yes y) = rw (le-leb st.have 3 y) (string_short l st.place (buffered st.have st.value ++ []) (few st.have st.value y))
    go (no n) =
        let i : Inside l st = h.1 (omega arith) in
        rw (lt-leb st.have 3 (omega arith))
        (contents_waiting (rule_of l) (rest_of (behind_string l)) st.place st.value st.at st.todo st.pad st.scan st.zeros st.bad [] i.missing)
goal_says_lem (G.Skip n a) st h =
    ap (λ (x : ℕ). cond (leb x 3) (skipping n (rest_after a) st.place (buffered x st.value ++ [])) (Ok None)) h.0
    ∙ simp (lt-leb n 0 h.1)
goal_says_lem G.Ended st h = ap (λ (x : ℕ). cond (leb x 3) (Ok (Some st.place)) (Ok None)) h
goal_says_lem (G.Stopped n) st h = ap (λ (x : ℕ). cond (leb x 3) (Err (record { number = n; place = st.place })) (Ok None)) h.0

pub rest_says : (st : Cursor) → Fits st.goal st → rest st [] ≡ says st
unfolding rest
rest_says st h = goal_says_lem st.goal st h

-- a state at its end says the same of any bytes
goal_final : (g : Goal) (st : Cursor) (t : List ℕ) → Fits g st → wants g ≡ false → rest_from g st t ≡ goal_says g st.place
goal_final (G.Word f) st t h e = let z : ◌≡◌ {A = ℕ} 0 1 = cc in absurd (omega arith)
goal_final (G.String l) st t h e = let z : ◌≡◌ {A = ℕ} 0 1 = cc in absurd (omega arith)
goal_final (G.Skip n a) st t h e = let z : ◌≡◌ {A = ℕ} 0 1 = cc in absurd (omega arith)
goal_final G.Ended st t h e = ap (λ (x : ℕ). cond (leb x 3) (Ok (Some st.place)) (Ok None)) h
goal_final (G.Stopped n) st t h e = ap (λ (x : ℕ). cond (leb x 3) (Err (record { number = n; place = st.place })) (Ok None)) h.0

pub rest_final : (st : Cursor) (t : List ℕ) → Fits st.goal st → wants st.goal ≡ false → rest st t ≡ says st
unfolding rest
rest_final st t h e = goal_final st.goal st t h e
