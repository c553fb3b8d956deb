-- Runs from a starting state: what is said after each is what reading all bytes so far at once says.
use Rattle.std.specs.Prelude.{Ok, Err, Some, None}
use Prim.Native.Nat.{ℕ, ◌+◌, ◌≤◌, ◌<◌}
use mathlib.Core.List.{List, [], ◌++◌, append_assoc, append-nil}
use mathlib.Core.Path.{◌≡◌, refl, sym, ap, ◌∙◌}
use mathlib.Core.Bool.{Bool, true, false, cond}
use native.Mathlib.Omega.{arith}
use native.Mathlib.Nat.{zero-add}
use lib.ListN.{length, length-append}
use lib.Dec.{eqb}
use Rattle.xdr.specs.Reading.{Reading, taken, refused}
use Rattle.xdr.specs.Format.{read}
use Rattle.xdr.proofs.Steady.{cut_short, steady}
use Rattle.message.specs.Message.{MessageValue, message}
use Rattle.message.specs.declared.edition.Edition.{Edition}
use Rattle.feed.specs.AtOnce.{stop, said, at_once}
use Rattle.feed.specs.Onward.{ending, onward}
use Rattle.feed.specs.Rest.{rest_of_word, rest, starting}
use Rattle.feed.specs.Sound.{Sound, reached, is_sound}
use Rattle.feed.specs.Front.{no_front, front_after, header_in, FrontFits, FrontOver}
use Rattle.feed.specs.Missing.{missing_in}
use Rattle.feed.specs.Feeding.{taken_of, Feeding, led_by, FedBy}
use Rattle.feed.specs.Promised.{Chain, opening, more, Promised}
use Rattle.feed.specs.Steps.Next.{wants}
use Rattle.feed.specs.Answer.{Answer}
use Rattle.feed.specs.declared.state.Cursor.{Cursor}
use Rattle.feed.specs.declared.state.Front.{Front}
use Rattle.feed.specs.declared.state.Feed.{Feed}
use Rattle.feed.specs.declared.state.Fed.{Fed}
use Rattle.feed.proofs.StepLaws.{rest_says, rest_final}
use Rattle.feed.proofs.SoundLaws.{starting_sound}
use Rattle.feed.proofs.MoveLaws.{says_wants}
use Rattle.feed.proofs.FrontLaws.{front_append, header_is, no_front_lem}
use Rattle.feed.proofs.TestLaws.{feed_test}
use Rattle.feed.proofs.MissingLaws.{rest_missing, some_missing}

-- a starting state stands for reading at once
pub starting_rest : (e : Edition) (t : List ℕ) → rest (starting e) t ≡ at_once e t
unfolding rest rest_of_word
starting_rest e t = go (read (message e) t)
  where
    go : (r : Reading (MessageValue e)) → onward r (λ m. ending) 0 t ≡ said r
    go (taken m n) = ap (λ (x : ℕ). Ok (Some x)) (zero-add n)
    go (refused k p) = ap (λ (x : ℕ). stop k x) (zero-add p)

-- what a state that runs led to stands for
pub record Stands (e : Edition) (st : Feed) (before : List ℕ) : Type 0 where
  pub sound : Sound st.cursor
  pub on : (t : List ℕ) → rest st.cursor t ≡ at_once e (before ++ t)
  pub counted : rest st.cursor [] ≡ Ok None → reached st.cursor ≡ length before
  pub fits : FrontFits st.front
  pub front : st.front ≡ front_after no_front before

waited : (st : Cursor) (run : List ℕ) → Sound st → rest st run ≡ Ok None → rest st [] ≡ Ok None
waited st run s e = go (wants st.goal) refl
  where
    go : (b : Bool) → wants st.goal ≡ b → rest st [] ≡ Ok None
    go true w = rest_says st s.fits ∙ says_wants st.goal st.place w
    go false w = rest_final st [] s.fits w ∙ sym (rest_final st run s.fits w) ∙ e

pub stands : {e : Edition} {before : List ℕ} {st : Feed} → Chain e before st → Stands e st before
unfolding reached
stands {e} opening = record { sound = (starting_sound e).sound; on = starting_rest e; counted = λ w. omega arith; fits = no_front_lem; front = refl }
stands {e} (more {before} {run} {st} {r} c b) =
    let s = stands c in
    let good : is_sound st ≡ true = feed_test st s.sound s.fits in
    let f : Feeding st.cursor run (led_by r) = b.feeding good in
    let g : FrontOver st.front run r.state.front = b.fronting good in
    record {
      sound = f.sound;
      on = λ t. f.on t ∙ s.on (run ++ t) ∙ ap (at_once e) (sym (append_assoc before run t));
      counted = λ w.
          let here : rest st.cursor run ≡ Ok None = ap (rest st.cursor) (sym (append-nil run)) ∙ sym (f.on []) ∙ w in
          f.counted (f.answered ∙ here)
          ∙ ap (λ (x : ℕ). x + length run) (s.counted (waited st.cursor run s.sound here))
          ∙ sym (length-append before run);
      fits = g.fits;
      front = g.is ∙ ap (λ (x : Front). front_after x run) s.front ∙ sym (front_append no_front before run);
    }

-- the promise
pub promise : {e : Edition} {before run : List ℕ} {st : Feed} {r : Fed} → Chain e before st → FedBy st run r → Promised e before run r
promise {e} {before} {run} {st} {r} c b = record {
  answer = f.answered ∙ s.on run;
  taken = f.taking ∙ ap (λ (x : Answer). taken_of (rest st.cursor []) x (reached st.cursor) (length run)) (s.on run) ∙ go (rest st.cursor []) refl (s.on [] ∙ ap (at_once e) (append-nil before));
  within = f.within;
  ends = λ n w a. let here : rest st.cursor [] ≡ Ok None = s.on [] ∙ ap (at_once e) (append-nil before) ∙ w in ap (λ (x : ℕ). x + r.taken) (sym (s.counted here)) ∙ f.ending n a here;
  header = ap header_in (stands (more c b)).front ∙ header_is (before ++ run);
}
  where
    s : Stands e st before
    s = stands c

    f : Feeding st.cursor run (led_by r)
    f = b.feeding (feed_test st s.sound s.fits)

    go : (a : Answer) → rest st.cursor [] ≡ a → rest st.cursor [] ≡ at_once e before
        → taken_of (rest st.cursor []) (at_once e (before ++ run)) (reached st.cursor) (length run) ≡ taken_of (at_once e before) (at_once e (before ++ run)) (length before) (length run)
    go (Ok None) w q =
        ap (λ (x : ℕ). taken_of (rest st.cursor []) (at_once e (before ++ run)) x (length run)) (s.counted w)
        ∙ ap (λ (x : Answer). taken_of x (at_once e (before ++ run)) (length before) (length run)) q
    go (Ok (Some n)) w q =
        ap (λ (x : Answer). taken_of x (at_once e (before ++ run)) (reached st.cursor) (length run)) w
        ∙ sym (ap (λ (x : Answer). taken_of x (at_once e (before ++ run)) (length before) (length run)) (sym q ∙ w))
    go (Err n) w q =
        ap (λ (x : Answer). taken_of x (at_once e (before ++ run)) (reached st.cursor) (length run)) w
        ∙ sym (ap (λ (x : Answer). taken_of x (at_once e (before ++ run)) (length before) (length run)) (sym q ∙ w))

-- with fewer bytes than are missing it still waits
pub missing_waits : {e : Edition} {before : List ℕ} {st : Feed} → Chain e before st → (t : List ℕ) → length t < missing_in st.cursor → at_once e (before ++ t) ≡ Ok None
missing_waits {e} {before} {st} c t h = sym ((stands c).on t) ∙ rest_missing st.cursor t (stands c).sound.fits h

-- and while it waits some are
pub missing_some : {e : Edition} {before : List ℕ} {st : Feed} → Chain e before st → at_once e before ≡ Ok None → 1 ≤ missing_in st.cursor
missing_some {e} {before} {st} c w = some_missing st.cursor (stands c).sound.fits ((stands c).on [] ∙ ap (at_once e) (append-nil before) ∙ w)

-- once a message has ended or been refused, more bytes change nothing
over : {B : Type 0} (r : Reading B) → (said r ≡ Ok None → ⊥) → cut_short r ≡ false
over (taken m n) h = refl
over (refused k p) h = go (eqb k 1) h
  where
    go : (b : Bool) → (cond {A = Answer} b (Ok None) (Err (record { number = k; place = p })) ≡ Ok None → ⊥) → b ≡ false
    go true h = absurd (h refl)
    go false h = refl

pub once_over : (e : Edition) (before run : List ℕ) → (at_once e before ≡ Ok None → ⊥) → at_once e (before ++ run) ≡ at_once e before
once_over e before run h = ap said (steady (message e) before run (over (read (message e) before) h))

-- and none of them is taken
pub none_after : (before after : Answer) (n m : ℕ) → (before ≡ Ok None → ⊥) → taken_of before after n m ≡ 0
none_after (Ok None) after n m h = absurd (h refl)
none_after (Ok (Some e)) after n m h = refl
none_after (Err r) after n m h = refl

-- once a message has ended or been refused, every later run gets that same answer, and none of its bytes are taken
pub later : {e : Edition} {before run : List ℕ} {st : Feed} {r : Fed} → Chain e before st → FedBy st run r → (at_once e before ≡ Ok None → ⊥)
    → (r.answer ≡ at_once e before) × (r.taken ≡ 0)
later {e} {before} {run} {st} {r} c f h =
    let p : Promised e before run r = promise c f in
    (p.answer ∙ once_over e before run h, p.taken ∙ none_after (at_once e before) (at_once e (before ++ run)) (length before) (length run) h)

-- a state that runs led to is sound
pub chain_sound : {e : Edition} {before : List ℕ} {st : Feed} → Chain e before st → is_sound st ≡ true
chain_sound {e} {before} {st} c = feed_test st (stands c).sound (stands c).fits
