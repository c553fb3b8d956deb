-- Rounds in rows of sixteen, and the schedule with them.
use Rattle.std.proofs.Common.{◌≡◌, ℕ, zero, suc, ◌+◌, ◌-◌, ◌*◌, ◌%◌, ◌<◌, ◌≤◌, List, [], ◌∷◌, ◌++◌, length, get_or, take, drop, sym, refl, ap, ◌∙◌, append_assoc, add-zero, suc-add, zero-add, arith, length-append, length-drop, take-append-drop, length-take-le, take_all, drop-cons, drop-drop, get_or-append-add}
use Rattle.sha256.specs.Constants.{K}
use Rattle.sha256.specs.Schedule.{word_from, extended}
use Rattle.sha256.specs.Hash.{round, rounds}
use Rattle.sha256.specs.Steps.{low_words, high_words, words_in, Eight}
use Rattle.sha256.specs.declared.state.State.{State}
use Rattle.sha256.specs.declared.block.Block.{Block}

-- ---- elements at places

module _ (s : List ℕ) (at : ℕ) where
  -- n elements from the place at + j on
  abbrev pub items : (j n : ℕ) → List ℕ
  items j zero = []
  items j (suc n) = get_or s (at + j) 0 ∷ items (suc j) n

  pub take_items : (j n : ℕ) → at + j + n ≤ length s → take n (drop (at + j) s) ≡ items j n
  take_items j zero h = refl
  take_items j (suc n) h =
      let p : at + j < length s = omega arith in
      let e : suc (at + j) ≡ at + suc j = omega arith in
      rw (drop-cons s (at + j) 0 p, e, take_items (suc j) n (omega arith)) refl

-- ---- rounds one after another

pub rounds_append : (ks js ws vs : List ℕ) (s : State) → length ks ≡ length ws
    → rounds (ks ++ js) (ws ++ vs) s ≡ rounds js vs (rounds ks ws s)
unfolding rounds
rounds_append [] js [] vs s h = refl
rounds_append [] js (w ∷ ws) vs s h = absurd (omega arith)
rounds_append (k ∷ ks) js [] vs s h = absurd (omega arith)
rounds_append (k ∷ ks) js (w ∷ ws) vs s h = rounds_append ks js ws vs (round k w s) (omega arith)

-- ---- the schedule goes by its last sixteen words

module _ (p w : List ℕ) (long : 16 ≤ length w) where
  back : (j : ℕ) → j ≤ 16 → get_or (p ++ w) (length (p ++ w) - j) 0 ≡ get_or w (length w - j) 0
  back j h =
      let e : length (p ++ w) - j ≡ length p + (length w - j) = omega (arith, length-append p w) in
      rw (e, get_or-append-add p w (length w - j) 0) refl

  word_behind : word_from (p ++ w) (length (p ++ w)) ≡ word_from w (length w)
  word_behind = rw (back 2 (omega arith), back 7 (omega arith), back 15 (omega arith), back 16 (omega arith)) refl

pub extended_behind : (n : ℕ) (p w : List ℕ) → 16 ≤ length w → extended n (p ++ w) ≡ p ++ extended n w
unfolding extended
extended_behind zero p w long = refl
extended_behind (suc n) p w long =
    rw (word_behind p w long, append_assoc p w (word_from w (length w) ∷ []))
    (extended_behind n p (w ++ (word_from w (length w) ∷ [])) (rw (length-append w (word_from w (length w) ∷ [])) (omega arith)))

pub extended_add : (m n : ℕ) (W : List ℕ) → extended (m + n) W ≡ extended n (extended m W)
unfolding extended
extended_add zero n W = rw (zero-add n) refl
extended_add (suc m) n W = rw (suc-add m n) (extended_add m n (W ++ (word_from W (length W) ∷ [])))

-- ---- the code's rows

pub K-long : length K ≡ 64
unfolding K
K-long = refl

-- a table that is K: its constants from a place on, and its last sixteen
module _ (ks : List ℕ) (e : ks ≡ K) where
  long : length ks ≡ 64
  long = ap length e ∙ K-long

  pub row_items : (at j n : ℕ) → at + j + n ≤ 64 → take n (drop (at + j) K) ≡ items ks at j n
  row_items at j n h = ap (λ (l : List ℕ). take n (drop (at + j) l)) (sym e) ∙ take_items ks at j n (omega (arith, long))

  pub first_items : (at : ℕ) → at + 8 ≤ 64 → take 8 (drop at K) ≡ get_or ks at 0 ∷ items ks at 1 7
  first_items at h = simp add-zero at (row_items at 0 8 (omega arith))

  pub last_items : drop 48 K ≡ items ks 48 0 16
  last_items = sym (take_all 16 (drop 48 K) (rw (length-drop 48 K) (omega (arith, K-long)))) ∙ row_items 48 0 16 (omega arith)

-- rounds as they are done: with these constants and words, from one state to another
pub data Rounds : (ks ws : List ℕ) → (s r : State) → Type 0 where
  no_round : {s : State} → Rounds [] [] s s
  one_round : {k w : ℕ} {ks ws : List ℕ} {s t r : State} → t ≡ round k w s → Rounds ks ws t r → Rounds (k ∷ ks) (w ∷ ws) s r

pub rounded : {ks ws : List ℕ} {s r : State} → Rounds ks ws s r → r ≡ rounds ks ws s
unfolding rounds
rounded no_round = refl
rounded (one_round {k} {w} {ks} {ws} e f) = rounded f ∙ ap (λ (t : State). rounds ks ws t) e

-- words as they are made: so many more, from one list to another
pub data Words : ℕ → (W U : List ℕ) → Type 0 where
  no_word : {W : List ℕ} → Words 0 W W
  one_word : {n x : ℕ} {W U : List ℕ} → x ≡ word_from W (length W) → Words n (W ++ (x ∷ [])) U → Words (suc n) W U

pub made : {n : ℕ} {W U : List ℕ} → Words n W U → extended n W ≡ U
unfolding extended
made no_word = refl
made (one_word {n} {x} {W} {U} e f) = ap (λ (y : ℕ). extended n (W ++ (y ∷ []))) (sym e) ∙ made f

-- ---- rows one after another

module _ (ws vs us vs' : List ℕ) (s r : State) (lw : length ws ≡ 8) (lv : length vs ≡ 8) (lu : length us ≡ 8) where
  schedule_eight : (m : ℕ) → extended 8 (ws ++ vs) ≡ ws ++ vs ++ us → extended (8 + m) (ws ++ vs) ≡ ws ++ extended m (vs ++ us)
  schedule_eight m e =
      extended_add 8 m (ws ++ vs) ∙ ap (λ (l : List ℕ). extended m l) (e ∙ append_assoc ws vs us)
      ∙ extended_behind m ws (vs ++ us) (omega (arith, length-append vs us))

  -- what is left of the rounds before eight of them is what is left after them
  rounds_eight : (at m : ℕ) → at + 8 ≤ 64 → Eight at ws vs us vs' s r
      → rounds (drop at K) (extended (8 + m) (ws ++ vs)) s ≡ rounds (drop (at + 8) K) (extended m (vs ++ us)) r
  rounds_eight at m h t =
      let split : drop at K ≡ take 8 (drop at K) ++ drop (at + 8) K = sym (take-append-drop 8 (drop at K)) ∙ ap (λ (l : List ℕ). take 8 (drop at K) ++ l) (drop-drop 8 at K) in
      let long : length (take 8 (drop at K)) ≡ 8 = length-take-le 8 (drop at K) (rw (length-drop at K) (omega (arith, K-long))) in
      ap (λ (l : List ℕ). rounds l (extended (8 + m) (ws ++ vs)) s) split
      ∙ ap (λ (l : List ℕ). rounds (take 8 (drop at K) ++ drop (at + 8) K) l s) (schedule_eight m t.words)
      ∙ rounds_append (take 8 (drop at K)) (drop (at + 8) K) ws (extended m (vs ++ us)) s (long ∙ sym lw)
      ∙ ap (λ (u : State). rounds (drop (at + 8) K) (extended m (vs ++ us)) u) (sym t.state)

-- a row, by its two halves
module _ (w half next : Block) (s t r : State) where
  row_whole : (at m : ℕ) → at + 16 ≤ 64 → Eight at (low_words w) (high_words w) (low_words half) (high_words half) s t
      → Eight (at + 8) (high_words half) (low_words half) (high_words next) (low_words next) t r
      → rounds (drop at K) (extended (8 + (8 + m)) (words_in w)) s ≡ rounds (drop (at + 8 + 8) K) (extended m (words_in next)) r
  row_whole at m h e f =
      rounds_eight (low_words w) (high_words w) (low_words half) (high_words half) s t refl refl refl at (8 + m) (omega arith) e
      ∙ ap (λ (l : List ℕ). rounds (drop (at + 8) K) (extended (8 + m) (l ++ low_words half)) t) (sym e.kept)
      ∙ rounds_eight (high_words half) (low_words half) (high_words next) (low_words next) t r refl refl refl (at + 8) m (omega arith) f
      ∙ ap (λ (l : List ℕ). rounds (drop (at + 8 + 8) K) (extended m (l ++ high_words next)) r) (sym f.kept)

  -- what is left of the rounds before a row is what is left after it
  pub row_turn : (row : ℕ) → row < 3 → Eight (row % 4 * 16) (low_words w) (high_words w) (low_words half) (high_words half) s t
      → Eight (row % 4 * 16 + 8) (high_words half) (low_words half) (high_words next) (low_words next) t r
      → rounds (drop (row * 16) K) (extended ((3 - row) * 16) (words_in w)) s ≡ rounds (drop ((row + 1) * 16) K) (extended ((3 - (row + 1)) * 16) (words_in next)) r
  row_turn row h e f =
      let at : row * 16 ≡ row % 4 * 16 = omega arith in
      let then : (row + 1) * 16 ≡ row % 4 * 16 + 8 + 8 = omega arith in
      let left : (3 - row) * 16 ≡ 8 + (8 + (3 - (row + 1)) * 16) = omega arith in
      rw (at, then, left) (row_whole (row % 4 * 16) ((3 - (row + 1)) * 16) (omega arith) e f)

-- after the third row
pub row_end : (row : ℕ) (W : List ℕ) (s : State) → row ≡ 3 → rounds (drop (row * 16) K) (extended ((3 - row) * 16) W) s ≡ rounds (drop 48 K) W s
unfolding extended
row_end row W s e = rw e refl
