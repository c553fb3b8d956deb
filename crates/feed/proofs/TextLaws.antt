-- The text rule byte by byte, from any state of it.
use Prim.Native.Nat.{ℕ, zero, suc, ◌+◌, ◌-◌, ◌≤◌, ◌<◌}
use mathlib.Core.List.{List, [], ◌∷◌, ◌++◌}
use mathlib.Core.Path.{◌≡◌, refl, sym, ap, subst, ◌∙◌}
use mathlib.Core.Bool.{Bool, true, false, cond}
use native.Mathlib.Omega.{arith}
use native.Mathlib.Nat.{add-zero, zero-add}
use native.Mathlib.Decide.{dec_le}
use borrow.Author.Tests.{le-leb, lt-leb, eq-eqb, ne_eqb, eqb-false}
use lib.ListN.{length, get_or, drop, drop_of_length-le}
use lib.Seq.{drop-cons}
use native.Mathlib.Numerals.{add-one}
use lib.Dec.{leb, eqb, eqb-suc-zero}
use Rattle.xdr.specs.Text.{followers, lowest, highest, is_within, sound_from, sound_up_to, is_text}
use Rattle.feed.specs.Rest.{text_after, scan_after, scanned, fresh}
use Rattle.feed.specs.declared.state.Scan.{Scan}
use Rattle.feed.specs.declared.state.Rule.{Rule}
use Rattle.feed.specs.declared.state.Rule.TheVariants as R

-- the position of the first sequence that breaks the text rule, or else of the end
text_from : Scan → ℕ → List ℕ → ℕ
text_from q i l = cond (leb q.left 3) (sound_from l q.left q.low q.high q.start i) q.start

-- one more byte
text_step : (q : Scan) (i b part : ℕ) (l : List ℕ) → text_from q i (b ∷ l) ≡ text_from (text_after q i b part) (suc i) l
unfolding text_from
text_step q i b part l = go q.left refl
  where
    next : ℕ → Bool → Bool → Bool → Scan
    next left none few fits =
        cond none (record { left = followers b; low = lowest b; high = highest b; start = i; part = part })
        (cond few
        (cond fits (record { left = left - 1; low = 128; high = 191; start = q.start; part = part })
        (record { left = 4; low = q.low; high = q.high; start = q.start; part = part }))
        (record { left = left; low = q.low; high = q.high; start = q.start; part = part }))

    from : Scan → ℕ
    from x = cond (leb x.left 3) (sound_from l x.left x.low x.high x.start (suc i)) x.start

    within : (m : ℕ) (f : Bool) → leb m 3 ≡ true → cond f (sound_from l m 128 191 q.start (suc i)) q.start ≡ from (next (suc m) false true f)
    within m true e =
        let less : suc m - 1 ≡ m = omega arith in
        sym (ap (λ (x : ℕ). cond (leb x 3) (sound_from l x 128 191 q.start (suc i)) q.start) less ∙ ap (λ (x : Bool). cond x (sound_from l m 128 191 q.start (suc i)) q.start) e)
    within m false e = refl

    inside : (m : ℕ) → Dec (suc m ≤ 3) → cond (leb (suc m) 3) (sound_from (b ∷ l) (suc m) q.low q.high q.start i) q.start ≡ from (next (suc m) false (leb (suc m) 3) (is_within q.low q.high b))
    inside m (yes h) = rw (le-leb (suc m) 3 h) (within m (is_within q.low q.high b) (le-leb m 3 (omega arith)))
    inside m (no h) = rw (lt-leb (suc m) 3 (omega arith)) (sym (ap (λ (x : Bool). cond x (sound_from l (suc m) q.low q.high q.start (suc i)) q.start) (lt-leb (suc m) 3 (omega arith))))

    go : (n : ℕ) → q.left ≡ n → cond (leb q.left 3) (sound_from (b ∷ l) q.left q.low q.high q.start i) q.start ≡ from (next q.left (eqb q.left 0) (leb q.left 3) (is_within q.low q.high b))
    go zero e = rw e refl
    go (suc m) e = rw e (inside m (dec_le (suc m) 3) ∙ ap (λ (x : Bool). from (next (suc m) x (leb (suc m) 3) (is_within q.low q.high b))) (sym (eqb-suc-zero m)))

-- a rule that asks for text
abbrev pub AsksText : Rule → Type 0
AsksText R.Opaque = ⊥
AsksText R.Text = Unit {0}
AsksText R.Name = Unit {0}

-- the lead of a sequence that isn't whole has come
Ahead : Scan → ℕ → Type 0
Ahead q i = (q.left ≡ 0 → ⊥) → q.start < i

ahead_step : (q : Scan) (i b part : ℕ) → Ahead q i → Ahead (text_after q i b part) (suc i)
unfolding Ahead
ahead_step q i b part h = go (eqb q.left 0) refl (leb q.left 3) (is_within q.low q.high b)
  where
    next : Bool → Bool → Bool → Scan
    next none few fits =
        cond none (record { left = followers b; low = lowest b; high = highest b; start = i; part = part })
        (cond few
        (cond fits (record { left = q.left - 1; low = 128; high = 191; start = q.start; part = part })
        (record { left = 4; low = q.low; high = q.high; start = q.start; part = part }))
        (record { left = q.left; low = q.low; high = q.high; start = q.start; part = part }))

    go : (none : Bool) → eqb q.left 0 ≡ none → (few fits : Bool) → ((next none few fits).left ≡ 0 → ⊥) → (next none few fits).start < suc i
    go true e few fits n = omega arith
    go false e true true n = let before : q.start < i = h (eqb-false q.left 0 e) in omega arith
    go false e true false n = let before : q.start < i = h (eqb-false q.left 0 e) in omega arith
    go false e false fits n = let before : q.start < i = h (eqb-false q.left 0 e) in omega arith

text_end : (q : Scan) (i : ℕ) → text_from q i [] ≡ cond (eqb q.left 0) i q.start
unfolding text_from
text_end q i = go q.left
  where
    few : (b : Bool) → cond b q.start q.start ≡ q.start
    few true = refl
    few false = refl

    go : (n : ℕ) → cond (leb n 3) (sound_from [] n q.low q.high q.start i) q.start ≡ cond (eqb n 0) i q.start
    go zero = refl
    go (suc m) = few (leb (suc m) 3) ∙ sym (ap (λ (b : Bool). cond b i q.start) (eqb-suc-zero m))

one_more_lem : (i n : ℕ) → suc i + n ≡ i + suc n
one_more_lem i n = omega arith

-- over some bytes
text_over : (rule : Rule) → AsksText rule → (l : List ℕ) (q : Scan) (i : ℕ) → Ahead q i
    → (text_from q i l ≡ text_from (scanned rule q i l) (i + length l) []) × Ahead (scanned rule q i l) (i + length l)
text_over rule h [] q i a = (ap (λ (x : ℕ). text_from q x []) (sym (add-zero i)), subst (λ (x : ℕ). Ahead q x) (sym (add-zero i)) a)
text_over R.Opaque h (b ∷ l) q i a = absurd h
text_over R.Text h (b ∷ l) q i a =
    let r = text_over R.Text h l (scan_after R.Text q i b) (suc i) (ahead_step q i b q.part a) in (
      text_step q i b q.part l ∙ r.0 ∙ ap (λ (x : ℕ). text_from (scanned R.Text q i (b ∷ l)) x []) (one_more_lem i (length l)),
      subst (λ (x : ℕ). Ahead (scanned R.Text q i (b ∷ l)) x) (one_more_lem i (length l)) r.1,
    )
text_over R.Name h (b ∷ l) q i a =
    let r = text_over R.Name h l (scan_after R.Name q i b) (suc i) (ahead_step q i b _ a) in (
      text_step q i b _ l ∙ r.0 ∙ ap (λ (x : ℕ). text_from (scanned R.Name q i (b ∷ l)) x []) (one_more_lem i (length l)),
      subst (λ (x : ℕ). Ahead (scanned R.Name q i (b ∷ l)) x) (one_more_lem i (length l)) r.1,
    )

-- the whole contents: the text rule holds where no sequence is left open, and else that sequence breaks it
module _ (rule : Rule) (h : AsksText rule) (l : List ℕ) where
  whole_end : sound_up_to l ≡ cond (eqb (scanned rule fresh 0 l).left 0) (0 + length l) (scanned rule fresh 0 l).start
  unfolding sound_up_to text_from Ahead
  whole_end = (text_over rule h l fresh 0 (λ n. absurd (n refl))).0 ∙ text_end (scanned rule fresh 0 l) (0 + length l)

  before_end : ((scanned rule fresh 0 l).left ≡ 0 → ⊥) → (scanned rule fresh 0 l).start < 0 + length l
  unfolding Ahead
  before_end = (text_over rule h l fresh 0 (λ n. absurd (n refl))).1

  pub text_is : is_text l ≡ eqb (scanned rule fresh 0 l).left 0
  text_is = go (eqb (scanned rule fresh 0 l).left 0) refl
    where
      go : (b : Bool) → eqb (scanned rule fresh 0 l).left 0 ≡ b → is_text l ≡ b
      go true e =
          let all : sound_up_to l ≡ length l = whole_end ∙ ap (λ (b : Bool). cond b (0 + length l) (scanned rule fresh 0 l).start) e ∙ zero-add (length l) in
          eq-eqb (sound_up_to l) (length l) all
      go false e =
          let at : sound_up_to l ≡ (scanned rule fresh 0 l).start = whole_end ∙ ap (λ (b : Bool). cond b (0 + length l) (scanned rule fresh 0 l).start) e in
          let before : (scanned rule fresh 0 l).start < 0 + length l = before_end (eqb-false (scanned rule fresh 0 l).left 0 e) in
          ne_eqb (sound_up_to l) (length l) (λ f. omega arith)

  pub fault_is : is_text l ≡ false → sound_up_to l ≡ (scanned rule fresh 0 l).start
  fault_is f = whole_end ∙ ap (λ (b : Bool). cond b (0 + length l) (scanned rule fresh 0 l).start) (sym text_is ∙ f)

-- one run of bytes after another
pub scanned_append : (rule : Rule) (p l : List ℕ) (q : Scan) (i : ℕ) → scanned rule q i (p ++ l) ≡ scanned rule (scanned rule q i p) (i + length p) l
scanned_append rule [] l q i = ap (λ (x : ℕ). scanned rule q x l) (sym (add-zero i))
scanned_append rule (b ∷ p) l q i = scanned_append rule p l (scan_after rule q i b) (suc i) ∙ ap (λ (x : ℕ). scanned rule (scanned rule q i (b ∷ p)) x l) (one_more_lem i (length p))

-- nothing is asked of an opaque
pub scanned_free : (l : List ℕ) (q : Scan) (i : ℕ) → scanned R.Opaque q i l ≡ q
scanned_free [] q i = refl
scanned_free (b ∷ l) q i = scanned_free l q (suc i)

-- a rule over the first j bytes of a part
pub record Scanning (rule : Rule) (s : Scan) (i : ℕ) (part : List ℕ) (q : Scan) (j : ℕ) : Type 0 where
  pub on : scanned rule s i part ≡ scanned rule q (i + j) (drop j part)
  pub within : j ≤ length part

pub scanning_none : (rule : Rule) (s : Scan) (i : ℕ) (part : List ℕ) → Scanning rule s i part s 0
scanning_none rule s i part = record { on = ap (λ (x : ℕ). scanned rule s x part) (sym (add-zero i)); within = omega arith }

pub scanning_more : {rule : Rule} {s : Scan} {i : ℕ} {part : List ℕ} {q : Scan} {j : ℕ} → Scanning rule s i part q j → j < length part
    → (r : Scan) → r ≡ scan_after rule q (i + j) (get_or part j 0) → Scanning rule s i part r (j + 1)
scanning_more {rule} {s} {i} {part} {q} {j} h b r e =
    let one : suc (i + j) ≡ i + (j + 1) = omega arith in
    record {
      on =
          h.on
          ∙ ap (λ (x : List ℕ). scanned rule q (i + j) x) (drop-cons part j 0 b)
          ∙ ap (λ (x : Scan). scanned rule x (suc (i + j)) (drop (suc j) part)) (sym e)
          ∙ ap (λ (x : ℕ). scanned rule r x (drop (suc j) part)) one
          ∙ ap (λ (x : ℕ). scanned rule r (i + (j + 1)) (drop x part)) (sym (add-one j));
      within = omega arith;
    }

pub scanning_all : {rule : Rule} {s : Scan} {i : ℕ} {part : List ℕ} {q : Scan} {j : ℕ} → Scanning rule s i part q j → length part ≤ j → q ≡ scanned rule s i part
scanning_all {rule} {s} {i} {part} {q} {j} h b = sym (h.on ∙ ap (λ (x : List ℕ). scanned rule q (i + j) x) (drop_of_length-le part {i = j} b))
