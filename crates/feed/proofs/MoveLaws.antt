-- Moves over the front of a run, and what feeding it comes to.
use Rattle.std.specs.Prelude.{Ok, Some, None}
use Prim.Native.Nat.{ℕ, zero, suc, ◌+◌, ◌*◌, ◌-◌, ◌^◌, ◌≤◌, ◌<◌}
use mathlib.Core.List.{List, [], ◌∷◌, ◌++◌, append_assoc, append-nil}
use mathlib.Core.Path.{◌≡◌, refl, sym, ap, subst, ◌∙◌}
use mathlib.Core.Bool.{Bool, true, false}
use native.Mathlib.Omega.{arith}
use native.Mathlib.Nat.{add-zero, add_assoc}
use lib.ListN.{length, get_or, take, drop, length-drop, length-append, drop_of_length-le, take-append-drop}
use lib.Seq.{drop-cons, drop-drop, drop-append-le, length-take-le, take_all}
use Rattle.xdr.specs.Number.{big_endian}
use Rattle.xdr.specs.Reading.{taken}
use Rattle.xdr.specs.Fields.{word}
use Rattle.xdr.proofs.Steps.{Reads, ends_word}
use Rattle.xdr.proofs.Parts.{number_value}
use Rattle.feed.specs.Onward.{skipping}
use Rattle.feed.specs.Rest.{rest_after, rest_of, rest_from, rest}
use Rattle.feed.specs.Sound.{Fits, Sound, reached}
use Rattle.feed.specs.Feeding.{taken_of, Feeding}
use Rattle.feed.specs.Steps.Next.{after_word, after_length, gap_after, stepped, wants, goal_says, says}
use Rattle.feed.specs.Steps.Moves.{ReachedAt, Comes, Moves, Through, taken_by}
use Rattle.feed.specs.Answer.{Answer}
use Rattle.feed.specs.declared.state.Cursor.{Cursor}
use Rattle.feed.specs.declared.state.Moved.{Moved}
use Rattle.feed.specs.declared.state.Goal.{Goal}
use Rattle.feed.specs.declared.state.Goal.TheVariants as G
use Rattle.feed.specs.declared.state.WordField.{WordField}
use Rattle.feed.specs.declared.state.StringField.{StringField}
use Rattle.feed.specs.declared.state.Gap.{Gap}
use Rattle.feed.proofs.GoalLaws.{field_word}
use Rattle.feed.proofs.StepLaws.{length_rest, gap_step, step_rest, rest_says, rest_final}
use Rattle.feed.proofs.SoundLaws.{come_field, come_length, come_gap, come_step, reached_word}
use Rattle.feed.proofs.CodeLaws.{fits_at, bounded_at}

-- the first byte
pub byte_moves : (st : Cursor) (part : List ℕ) (r : Moved) → Sound st → wants st.goal ≡ true → 0 < length part → get_or part 0 0 < 256
    → r ≡ record { state = stepped st (get_or part 0 0); taken = 1 } → Moves st part r
byte_moves st part r h w l b e = subst (λ (x : Moved). Moves st part x) (sym e) (record {
  on = λ t. ap (λ (x : List ℕ). rest st (x ++ t)) (drop-cons part 0 0 l) ∙ step_rest st (get_or part 0 0) (drop 1 part ++ t) h.fits b;
  comes = come_step st (get_or part 0 0) h b w;
  some = omega arith;
  within = l;
})

-- what a state at a goal stands for
pub rest_at : (st : Cursor) (g : Goal) (t : List ℕ) → st.goal ≡ g → rest st t ≡ rest_from g st t
unfolding rest
rest_at st g t e = ap (λ (x : Goal). rest_from x st t) e

pub fresh_at : (st : Cursor) (g : Goal) (t : List ℕ) → st.goal ≡ g → st.have ≡ 0 → rest st t ≡ rest_of g st.place t
fresh_at st g t e z = rest_at st g t e ∙ go st.have z
  where
    go : (c : ℕ) → c ≡ 0 → rest_from g (record { goal = st.goal; place = st.place; have = c; value = st.value; at = st.at; todo = st.todo; pad = st.pad; scan = st.scan; zeros = st.zeros; bad = st.bad }) t ≡ rest_of g st.place t
    go c q = subst (λ (x : ℕ). rest_from g (record { goal = st.goal; place = st.place; have = x; value = st.value; at = st.at; todo = st.todo; pad = st.pad; scan = st.scan; zeros = st.zeros; bad = st.bad }) t ≡ rest_of g st.place t) (sym q) refl

pub reached_fresh : (st : Cursor) → st.have ≡ 0 → reached st ≡ st.place
reached_fresh st e = let h : st.have ≤ 3 = omega arith in let r : reached st ≡ st.place + st.have = reached_word st h in omega arith

-- bytes that are passed over
pub gap_moves : (st : Cursor) (part : List ℕ) (r : Moved) (n : ℕ) (a : Gap) (k : ℕ) → Sound st → st.goal ≡ G.Skip n a → 1 ≤ k → k ≤ n → k ≤ length part
    → r ≡ record { state = gap_after n a st.place k; taken = k } → Moves st part r
gap_moves st part r n a k h g o l m e = subst (λ (x : Moved). Moves st part x) (sym e) (record {
  on = λ t.
      fresh_at st (G.Skip n a) (part ++ t) g (fits_at g h).0
      ∙ ap (λ (x : List ℕ). skipping n (rest_after a) st.place x) (ap (λ (x : List ℕ). x ++ t) (sym (take-append-drop k part)) ∙ append_assoc (take k part) (drop k part) t)
      ∙ gap_step n a st.place k (take k part) (drop k part ++ t) (length-take-le k part m) l;
  comes = rw (reached_fresh st (fits_at g h).0) (come_gap n a st.place k l (bounded_at st _ g h));
  some = o;
  within = m;
})

big_endian_more : (k : ℕ) (s t : List ℕ) → k ≤ length s → big_endian k (s ++ t) ≡ big_endian k s
big_endian_more zero s t h = refl
big_endian_more (suc k) [] t h = absurd (omega arith)
big_endian_more (suc k) (b ∷ s) t h = ap (λ (n : ℕ). b * 256 ^ k + n) (big_endian_more k s t (omega arith))

-- a whole word
module _ (st : Cursor) (part : List ℕ) (r : Moved) (h : Sound st) (z : st.have ≡ 0) where
  whole : {w m : ℕ} → Reads word part 0 (taken w m) → (4 ≤ length part) × ((t : List ℕ) → big_endian 4 (part ++ t) ≡ w)
  whole {w} {m} d =
      let ends = ends_word {k = 3} d in
      let l : 4 ≤ length part = omega (arith, ends.0, ends.1) in
      (l, λ t. big_endian_more 4 part t l ∙ sym (number_value d))

  four : (t : List ℕ) → 4 ≤ length part → 4 ≤ length (part ++ t)
  four t l = rw (length-append part t) (omega arith)

  pub word_moves : (f : WordField) (w : ℕ) {m : ℕ} → st.goal ≡ G.Word f → Reads word part 0 (taken w m) → r ≡ record { state = after_word f st.place w; taken = 4 } → Moves st part r
  word_moves f w g d e = subst (λ (x : Moved). Moves st part x) (sym e) (record {
    on = λ t.
        fresh_at st (G.Word f) (part ++ t) g z
        ∙ field_word f st.place (part ++ t) (four t (whole d).0)
        ∙ ap (λ (x : ℕ). rest (after_word f st.place x) (drop 4 (part ++ t))) ((whole d).1 t)
        ∙ ap (λ (x : List ℕ). rest (after_word f st.place w) x) (drop-append-le 4 part t (whole d).0);
    comes = rw (reached_fresh st z) (come_field f st.place w (bounded_at st _ g h));
    some = omega arith;
    within = (whole d).0;
  })

  pub length_moves : (f : StringField) (w : ℕ) {m : ℕ} → st.goal ≡ G.String f → Reads word part 0 (taken w m) → r ≡ record { state = after_length f st.place w; taken = 4 } → Moves st part r
  length_moves f w g d e = subst (λ (x : Moved). Moves st part x) (sym e) (record {
    on = λ t.
        fresh_at st (G.String f) (part ++ t) g z
        ∙ length_rest f st.place (part ++ t) (four t (whole d).0)
        ∙ ap (λ (x : ℕ). rest (after_length f st.place x) (drop 4 (part ++ t))) ((whole d).1 t)
        ∙ ap (λ (x : List ℕ). rest (after_length f st.place w) x) (drop-append-le 4 part t (whole d).0);
    comes = rw (reached_fresh st z) (come_length f st.place w (bounded_at st _ g h));
    some = omega arith;
    within = (whole d).0;
  })

-- a state that was reached
reached_goal : (g : Goal) (st : Cursor) (n : ℕ) → wants g ≡ true → ReachedAt g st n → reached st ≡ n
reached_goal (G.Word f) st n w h = h
reached_goal (G.String l) st n w h = h
reached_goal (G.Skip k a) st n w h = h
reached_goal G.Ended st n w h = h
reached_goal (G.Stopped k) st n w h = let z : ◌≡◌ {A = ℕ} 0 1 = cc in absurd (omega arith)

here : (g : Goal) (st : Cursor) → ReachedAt g st (reached st)
here (G.Word f) st = refl
here (G.String l) st = refl
here (G.Skip k a) st = refl
here G.Ended st = refl
here (G.Stopped k) st = tt

-- the part of a run from a place on
part_rest : (run : List ℕ) (i : ℕ) → take (length run - i) (drop i run) ≡ drop i run
part_rest run i = take_all (length run - i) (drop i run) (simp length-drop (omega arith))

pub part_some : (run : List ℕ) (i : ℕ) → i < length run → 0 < length (take (length run - i) (drop i run))
part_some run i h = rw (part_rest run i, length-drop i run) (omega arith)

pub part_moves : {st : Cursor} {m : Moved} (run : List ℕ) (i : ℕ) → Moves st (take (length run - i) (drop i run)) m → Moves st (drop i run) m
part_moves {st} {m} run i h = subst (λ (x : List ℕ). Moves st x m) (part_rest run i) h

-- the moves so far over a run
pub record Begun (st : Cursor) (run : List ℕ) (now : Cursor) (i : ℕ) : Type 0 where
  pub on : (t : List ℕ) → rest st (run ++ t) ≡ rest now (drop i run ++ t)
  pub comes : Comes now (reached st + i)
  pub within : i ≤ length run

pub begun_none : (st : Cursor) (run : List ℕ) → Sound st → Begun st run st 0
begun_none st run h = record {
  on = λ t. refl;
  comes = record { sound = h; arrived = subst (λ (x : ℕ). ReachedAt st.goal st x) (sym (add-zero (reached st))) (here st.goal st) };
  within = omega arith;
}

pub begun_more : {st : Cursor} {run : List ℕ} {now : Cursor} {i : ℕ} → Begun st run now i → wants now.goal ≡ true → (m : Moved) → Moves now (drop i run) m
    → Begun st run m.state (i + m.taken)
begun_more {st} {run} {now} {i} g w m h = record {
  on = λ t. g.on t ∙ h.on t ∙ ap (λ (x : List ℕ). rest m.state (x ++ t)) (drop-drop m.taken i run);
  comes = subst (λ (x : ℕ). Comes m.state x) (ap (λ (x : ℕ). x + m.taken) (reached_goal now.goal now (reached st + i) w g.comes.arrived) ∙ add_assoc (reached st) i m.taken) h.comes;
  within = let a : i ≤ length run = g.within in let b : m.taken ≤ length (drop i run) = h.within in let c = length-drop i run in omega (arith, c);
}

pub begun_end : {st : Cursor} {run : List ℕ} {now : Cursor} {i : ℕ} → Begun st run now i → length run ≤ i → Through st run (record { state = now; taken = i })
begun_end g h = record { on = g.on; comes = g.comes; within = g.within; whole = λ e. omega (arith, g.within) }

pub begun_final : {st : Cursor} {run : List ℕ} {now : Cursor} {i : ℕ} → Begun st run now i → wants now.goal ≡ false → Through st run (record { state = now; taken = i })
begun_final g h = record { on = g.on; comes = g.comes; within = g.within; whole = λ e. let z : ◌≡◌ {A = ℕ} 0 1 = cc in absurd (omega arith) }

-- what is said after a run
says_end : {st : Cursor} {run : List ℕ} {m : Moved} → Through st run m → (t : List ℕ) → rest st (run ++ t) ≡ rest m.state t
says_end {st} {run} {m} h t = h.on t ∙ go (wants m.state.goal) refl
  where
    go : (b : Bool) → wants m.state.goal ≡ b → rest m.state (drop m.taken run ++ t) ≡ rest m.state t
    go true e = ap (λ (x : List ℕ). rest m.state (x ++ t)) (drop_of_length-le run {i = m.taken} (omega (arith, h.whole e)))
    go false e = rest_final m.state (drop m.taken run ++ t) h.comes.sound.fits e ∙ sym (rest_final m.state t h.comes.sound.fits e)

pub says_run : {st : Cursor} {run : List ℕ} {m : Moved} → Through st run m → rest st run ≡ says m.state
says_run {st} {run} {m} h = ap (rest st) (sym (append-nil run)) ∙ says_end h [] ∙ rest_says m.state h.comes.sound.fits

-- what is said of a goal that wants bytes, and of one that doesn't
pub says_wants : (g : Goal) (p : ℕ) → wants g ≡ true → goal_says g p ≡ Ok None
says_wants (G.Word f) p e = refl
says_wants (G.String l) p e = refl
says_wants (G.Skip n a) p e = refl
says_wants G.Ended p e = let z : ◌≡◌ {A = ℕ} 0 1 = cc in absurd (omega arith)
says_wants (G.Stopped n) p e = let z : ◌≡◌ {A = ℕ} 0 1 = cc in absurd (omega arith)

pub wants_says : (g : Goal) (p : ℕ) → goal_says g p ≡ Ok None → wants g ≡ true
wants_says (G.Word f) p e = refl
wants_says (G.String l) p e = refl
wants_says (G.Skip n a) p e = refl
wants_says G.Ended p e = let z : ◌≡◌ {A = ℕ} 0 1 = cc in absurd (omega arith)
wants_says (G.Stopped n) p e = let z : ◌≡◌ {A = ℕ} 0 1 = cc in absurd (omega arith)

none_taken : (g : Goal) (p : ℕ) (after : Answer) (n m : ℕ) → wants g ≡ false → 0 ≡ taken_of (goal_says g p) after n m
none_taken (G.Word f) p after n m e = let z : ◌≡◌ {A = ℕ} 0 1 = cc in absurd (omega arith)
none_taken (G.String l) p after n m e = let z : ◌≡◌ {A = ℕ} 0 1 = cc in absurd (omega arith)
none_taken (G.Skip k a) p after n m e = let z : ◌≡◌ {A = ℕ} 0 1 = cc in absurd (omega arith)
none_taken G.Ended p after n m e = refl
none_taken (G.Stopped k) p after n m e = refl

some_taken : (g : Goal) (st : Cursor) (i n m : ℕ) → Fits g st → ReachedAt g st (n + i) → (wants g ≡ true → i ≡ m) → taken_by g i m ≡ taken_of (Ok None) (goal_says g st.place) n m
some_taken (G.Word f) st i n m h r w = w refl
some_taken (G.String l) st i n m h r w = w refl
some_taken (G.Skip k a) st i n m h r w = w refl
some_taken G.Ended st i n m h r w = let a : reached st ≡ st.place = reached_fresh st h in omega (arith, r)
some_taken (G.Stopped k) st i n m h r w = refl

taken_within : (g : Goal) (i m : ℕ) → i ≤ m → taken_by g i m ≤ m
taken_within (G.Word f) i m h = h
taken_within (G.String l) i m h = h
taken_within (G.Skip k a) i m h = h
taken_within G.Ended i m h = h
taken_within (G.Stopped k) i m h = omega arith

-- a message ends where its last byte was taken
taken_end : (g : Goal) (st : Cursor) (i n m k : ℕ) → Fits g st → ReachedAt g st (n + i) → goal_says g st.place ≡ Ok (Some k) → n + taken_by g i m ≡ k
taken_end (G.Word f) st i n m k h r e = let z : ◌≡◌ {A = ℕ} 0 1 = cc in absurd (omega arith)
taken_end (G.String l) st i n m k h r e = let z : ◌≡◌ {A = ℕ} 0 1 = cc in absurd (omega arith)
taken_end (G.Skip j a) st i n m k h r e = let z : ◌≡◌ {A = ℕ} 0 1 = cc in absurd (omega arith)
taken_end G.Ended st i n m k h r e = let a : reached st ≡ st.place = reached_fresh st h in let b : st.place ≡ k = cc in omega (arith, r)
taken_end (G.Stopped j) st i n m k h r e = let z : ◌≡◌ {A = ℕ} 0 1 = cc in absurd (omega arith)

-- a run that a state is fed
pub fed_through : {st : Cursor} {run : List ℕ} {m : Moved} → Sound st → wants st.goal ≡ true → Through st run m
    → Feeding st run (record { state = m.state; answer = says m.state; taken = taken_by m.state.goal m.taken (length run) })
fed_through {st} {run} {m} s w h = record {
  answered = sym (says_run h);
  taking =
      some_taken m.state.goal m.state m.taken (reached st) (length run) h.comes.sound.fits h.comes.arrived h.whole
      ∙ ap (λ (x : Answer). taken_of (Ok None) x (reached st) (length run)) (sym (says_run h))
      ∙ ap (λ (x : Answer). taken_of x (rest st run) (reached st) (length run)) (sym (rest_says st s.fits ∙ says_wants st.goal st.place w));
  within = taken_within m.state.goal m.taken (length run) h.within;
  ending = λ n e w. taken_end m.state.goal m.state m.taken (reached st) (length run) n h.comes.sound.fits h.comes.arrived e;
  on = λ t. sym (says_end h t);
  sound = h.comes.sound;
  counted = λ e.
      let x = wants_says m.state.goal m.state.place e in
      reached_goal m.state.goal m.state (reached st + m.taken) x h.comes.arrived ∙ ap (λ (n : ℕ). reached st + n) (h.whole x);
}

pub fed_final : {st : Cursor} {run : List ℕ} → Sound st → wants st.goal ≡ false → Feeding st run (record { state = st; answer = says st; taken = 0 })
fed_final {st} {run} s w = record {
  answered = sym (rest_final st run s.fits w);
  taking = none_taken st.goal st.place (rest st run) (reached st) (length run) w ∙ ap (λ (x : Answer). taken_of x (rest st run) (reached st) (length run)) (sym (rest_says st s.fits));
  within = omega arith;
  ending = λ n e r. let x = wants_says st.goal st.place (sym (rest_says st s.fits) ∙ r) in let z : ◌≡◌ {A = ℕ} 0 1 = cc in absurd (omega arith);
  on = λ t. rest_final st t s.fits w ∙ sym (rest_final st (run ++ t) s.fits w);
  sound = s;
  counted = λ e. let x = wants_says st.goal st.place e in let z : ◌≡◌ {A = ℕ} 0 1 = cc in absurd (omega arith);
}

-- the same answer, however it was made
pub fed_as : {st : Cursor} {run : List ℕ} {s : Cursor} {a b : Answer} {k l : ℕ} → a ≡ b → k ≡ l
    → Feeding st run (record { state = s; answer = b; taken = l }) → Feeding st run (record { state = s; answer = a; taken = k })
fed_as {st} {run} {s} {a} {b} {k} {l} e f h =
    subst (λ (x : Answer). Feeding st run (record { state = s; answer = x; taken = k })) (sym e)
    (subst (λ (x : ℕ). Feeding st run (record { state = s; answer = b; taken = x })) (sym f) h)
