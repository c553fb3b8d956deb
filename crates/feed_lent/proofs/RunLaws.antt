-- A run that ends within a field, and the first run.
use Rattle.std.specs.Prelude.{Ok, None}
use Prim.Native.Nat.{ℕ, ◌+◌, ◌*◌, ◌-◌, ◌<◌, ◌≤◌}
use mathlib.Core.List.{List}
use mathlib.Core.Path.{◌≡◌, refl, sym, ap, ◌∙◌}
use mathlib.Core.Bool.{Bool, true, false}
use native.Mathlib.Omega.{arith}
use borrow.Author.Tests.{lt-ltb, ne_eqb}
use lib.ListN.{length, take, get_or}
use lib.Seq.{take_all}
use Rattle.feed.specs.Rest.{rule_of, scanned, gathered}
use Rattle.feed.specs.Sound.{Sound}
use Rattle.feed.specs.Feeding.{Feeding}
use Rattle.feed.specs.Steps.Next.{inside_after, settled, gap_after, goal_after, stepped, wants}
use Rattle.feed.specs.Steps.Moves.{Through, taken_by}
use Rattle.feed_lent.specs.Steps.{Rests, gathers}
use Rattle.feed.specs.declared.state.Cursor.{Cursor}
use Rattle.feed.specs.declared.state.Scan.{Scan}
use Rattle.feed.specs.declared.state.Goal.{Goal}
use Rattle.feed.specs.declared.state.Goal.TheVariants as G
use Rattle.feed.specs.declared.state.Gap.{Gap}
use Rattle.feed.specs.declared.state.StringField.{StringField}
use Rattle.feed.proofs.CodeLaws.{small_word, fits_at, wants_at}
use Rattle.feed.proofs.MoveLaws.{byte_moves, gap_moves, says_wants, fed_through, fed_as}
use Rattle.feed.proofs.ContentsLaws.{contents_moves}

-- a run that ends within a field is taken whole, and more is waited for
taken_whole : (g : Goal) (i m : ℕ) → wants g ≡ true → taken_by g i m ≡ i
taken_whole (G.Word f) i m w = refl
taken_whole (G.String l) i m w = refl
taken_whole (G.Skip n a) i m w = refl
taken_whole G.Ended i m w = refl
taken_whole (G.Stopped n) i m w = let z : ◌≡◌ {A = ℕ} 0 1 = cc in absurd (omega arith)

pub rests_feeding : {st : Cursor} {run : List ℕ} {next : Cursor} → Sound st → Rests st run next → Feeding st run (record { state = next; answer = Ok None; taken = length run })
rests_feeding {st} {run} {next} s h =
    fed_as (sym (says_wants next.goal next.place h.after)) (sym (taken_whole next.goal (length run) (length run) h.after))
    (fed_through s h.before all)
  where
    all : Through st run (record { state = next; taken = length run })
    all = record { on = h.moves.on; comes = h.moves.comes; within = h.moves.within; whole = λ w. refl }

-- within bytes that are passed over
gap_goes_on : (n : ℕ) (a : Gap) (p k : ℕ) → k < n → wants (gap_after n a p k).goal ≡ true
unfolding gap_after
gap_goes_on n a p k h = rw (ne_eqb n k (λ e. omega arith)) refl

pub gap_rests : (st : Cursor) (run : List ℕ) (n : ℕ) (a : Gap) {next : Cursor} → Sound st → st.goal ≡ G.Skip n a → 0 < length run → length run < n
    → next ≡ gap_after n a st.place (length run) → Rests st run next
gap_rests st run n a s g o l e = record {
  before = wants_at st (G.Skip n a) g refl;
  moves = gap_moves st run _ n a (length run) s g o (omega arith) (omega arith) (ap (λ (x : Cursor). record { state = x; taken = length run }) e);
  after = ap (λ (x : Cursor). wants x.goal) e ∙ gap_goes_on n a st.place (length run) l;
}

-- within the contents of a string
settled_within : (l : StringField) (p n i c z : ℕ) (q : Scan) (zeros : ℕ) (bad : Bool) → 0 < c + z
    → record { goal = G.String l; place = p; have = 4; value = n; at = i; todo = c; pad = z; scan = q; zeros = zeros; bad = bad } ≡ settled l p n i c z q zeros bad
unfolding settled
settled_within l p n i c z q zeros bad h = rw (ne_eqb (c + z) 0 (λ e. omega arith)) refl

pub contents_rests : (st : Cursor) (run : List ℕ) (l : StringField) {next : Cursor} {q : Scan} → Sound st → st.goal ≡ G.String l → 3 < st.have → 0 < length run → length run ≤ st.todo → length run < st.todo + st.pad
    → q ≡ scanned (rule_of l) st.scan st.at run
    → next ≡ record { goal = G.String l; place = st.place; have = 4; value = st.value; at = st.at + length run; todo = st.todo - length run; pad = st.pad; scan = q; zeros = st.zeros; bad = st.bad }
    → Rests st run next
contents_rests st run l {next} {q} s g f o m u e is = record {
  before = wants_at st (G.String l) g refl;
  moves = contents_moves st run _ l (length run) s g f o (omega arith) (omega arith) (ap (λ (x : Cursor). record { state = x; taken = length run }) here);
  after = ap (λ (x : Cursor). wants x.goal) is;
}
  where
    here : next ≡ settled l st.place st.value (st.at + length run) (st.todo - length run) st.pad (scanned (rule_of l) st.scan st.at (take (length run) run)) st.zeros st.bad
    here = is ∙ settled_within l st.place st.value (st.at + length run) (st.todo - length run) st.pad q st.zeros st.bad (omega arith)
        ∙ ap (λ (x : Scan). settled l st.place st.value (st.at + length run) (st.todo - length run) st.pad x st.zeros st.bad)
        (e ∙ ap (scanned (rule_of l) st.scan st.at) (sym (take_all (length run) run (omega arith))))

-- a byte of a word that is not its last
byte_gathered : (g : Goal) (st : Cursor) (b : ℕ) → gathers g ≡ true → st.have < 3 → gathered g st.place (st.have + 1) (st.value * 256 + b) ≡ goal_after g st b
byte_gathered (G.Word f) st b w h = rw (lt-ltb st.have 3 h) refl
byte_gathered (G.String l) st b w h = rw (lt-ltb st.have 3 h) refl
byte_gathered (G.Skip n a) st b w h = let z : ◌≡◌ {A = ℕ} 0 1 = cc in absurd (omega arith)
byte_gathered G.Ended st b w h = let z : ◌≡◌ {A = ℕ} 0 1 = cc in absurd (omega arith)
byte_gathered (G.Stopped n) st b w h = let z : ◌≡◌ {A = ℕ} 0 1 = cc in absurd (omega arith)

gathers_wants : (g : Goal) → gathers g ≡ true → wants g ≡ true
gathers_wants (G.Word f) e = refl
gathers_wants (G.String l) e = refl
gathers_wants (G.Skip n a) e = refl
gathers_wants G.Ended e = e
gathers_wants (G.Stopped n) e = e

pub gathers_small : (st : Cursor) (g : Goal) → Sound st → st.goal ≡ g → gathers g ≡ true → st.have < 3 → st.value < 16777216
gathers_small st (G.Word f) s e w h = small_word st.have st.value (omega arith) (fits_at e s).1
gathers_small st (G.String l) s e w h = small_word st.have st.value (omega arith) ((fits_at e s).0 (omega arith))
gathers_small st (G.Skip n a) s e w h = let z : ◌≡◌ {A = ℕ} 0 1 = cc in absurd (omega arith)
gathers_small st G.Ended s e w h = let z : ◌≡◌ {A = ℕ} 0 1 = cc in absurd (omega arith)
gathers_small st (G.Stopped n) s e w h = let z : ◌≡◌ {A = ℕ} 0 1 = cc in absurd (omega arith)

pub byte_rests : (st : Cursor) (run : List ℕ) (g : Goal) {next : Cursor} → Sound st → st.goal ≡ g → gathers g ≡ true → st.have < 3 → length run ≡ 1 → get_or run 0 0 < 256
    → next ≡ gathered g st.place (st.have + 1) (st.value * 256 + get_or run 0 0) → Rests st run next
unfolding stepped
byte_rests st run g {next} s e w h o b is = record {
  before = wants_at st g e (gathers_wants g w);
  moves = byte_moves st run _ s (wants_at st g e (gathers_wants g w)) (omega arith) b (ap (λ (x : Cursor). record { state = x; taken = length run }) here ∙ ap (λ (x : ℕ). record { state = stepped st (get_or run 0 0); taken = x }) o);
  after = ap (λ (x : Cursor). wants x.goal) is ∙ gathers_wants g w;
}
  where
    here : next ≡ stepped st (get_or run 0 0)
    here = is ∙ byte_gathered g st (get_or run 0 0) w h ∙ ap (λ (x : Goal). goal_after x st (get_or run 0 0)) (sym e)

-- a zero of a pad that is not its last byte
pub zero_rests : (st : Cursor) (run : List ℕ) (l : StringField) {next : Cursor} → Sound st → st.goal ≡ G.String l → st.have ≡ 4 → st.todo ≡ 0 → 1 < st.pad → st.bad ≡ false
    → length run ≡ 1 → get_or run 0 0 ≡ 0
    → next ≡ record { goal = G.String l; place = st.place; have = 4; value = st.value; at = st.at; todo = 0; pad = st.pad - 1; scan = st.scan; zeros = st.zeros + 1; bad = false }
    → Rests st run next
unfolding stepped inside_after settled
zero_rests st run l {next} s g f t p b o z is = record {
  before = wants_at st (G.String l) g refl;
  moves = byte_moves st run _ s (wants_at st (G.String l) g refl) (omega arith) (omega arith) (ap (λ (x : Cursor). record { state = x; taken = length run }) here ∙ ap (λ (x : ℕ). record { state = stepped st (get_or run 0 0); taken = x }) o);
  after = ap (λ (x : Cursor). wants x.goal) is;
}
  where
    here : next ≡ stepped st (get_or run 0 0)
    here = is ∙ sym (ap (λ (x : Goal). goal_after x st (get_or run 0 0)) g ∙ simp (f, t, b, z, ne_eqb (0 + (st.pad - 1)) 0 (λ e. omega arith)))
