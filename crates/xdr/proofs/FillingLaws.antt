-- How a call that fills a buffer keeps its promise: it refuses, the room is too small, or it fills the bytes in.
use Prim.Native.Nat.{ℕ, ◌≤◌, ◌<◌}
use mathlib.Core.List.{List}
use mathlib.Core.Path.{◌≡◌, refl, sym, ap, subst, ◌∙◌}
use mathlib.Core.Bool.{Bool, true, false, cond}
use native.Mathlib.Omega.{arith}
use borrow.Author.Tests.{le-leb, lt-leb, leb-true}
use lib.ListN.{length, take, drop}
use lib.Seq.{take_at, drop_at}
use lib.Dec.{leb}
use Rattle.std.specs.Prelude.{Ok, Err}
use Rattle.std.specs.declared.result.Result.{Result}
use Rattle.xdr.specs.Buffer.{filled}
use Rattle.xdr.specs.Filling.{Outcome, gives, refuses, in_room, filling_answer, buffer_after, Fills}
use Rattle.xdr.specs.declared.answer.Refusal.{Refusal}

-- the bytes fit, or they don't
pub in_room_lem : (l : List ℕ) (room : ℕ) → length l ≤ room → in_room room (gives l) ≡ gives l
in_room_lem l room h = rw (le-leb (length l) room h) refl

pub no_room : (l : List ℕ) (room : ℕ) → room < length l → in_room room (gives l) ≡ refuses 14 0
no_room l room h = rw (lt-leb (length l) room h) refl

-- bytes that are given are no refusal; they were there to give, and there was room for them
pub not_given : {k p : ℕ} {l : List ℕ} {P : Type 0} → refuses k p ≡ gives l → P
not_given e = let z : ◌≡◌ {A = ℕ} 0 1 = cc in absurd (omega arith)

pub given_room : (room : ℕ) (o : Outcome) (l : List ℕ) → in_room room o ≡ gives l → (o ≡ gives l) × (length l ≤ room)
given_room room (gives k) l e = go (leb (length k) room) refl e
  where
    go : (b : Bool) → leb (length k) room ≡ b → cond b (gives k) (refuses 14 0) ≡ gives l → (gives k ≡ gives l) × (length l ≤ room)
    go true f q = let same : k ≡ l = cc in (q, subst (λ (m : List ℕ). length m ≤ room) same (leb-true (length k) room f))
    go false f q = not_given q
given_room room (refuses k p) l e = not_given e

-- an outcome, by what is answered of it
pub refused_is : (y : Outcome) {f : Refusal} → Err f ≡ filling_answer y → y ≡ refuses f.number f.place
refused_is (gives l) e = let z : ◌≡◌ {A = ℕ} 0 1 = cc in absurd (omega arith)
refused_is (refuses k p) {f} e = let n : f.number ≡ k = cc in let m : f.place ≡ p = cc in rw (n, m) refl

filled_is : (y : Outcome) {n : ℕ} → Ok n ≡ filling_answer y → (l : List ℕ) × (y ≡ gives l) × (length l ≡ n)
filled_is (gives l) e = (l, refl, cc)
filled_is (refuses k p) e = let z : ◌≡◌ {A = ℕ} 0 1 = cc in absurd (omega arith)

module _ (out : List ℕ) {x : Outcome} where
  -- by what is left of the outcome in that room
  pub fills_by : {y : Outcome} {r : Result ℕ Refusal} {o : List ℕ} → in_room (length out) x ≡ y → r ≡ filling_answer y → o ≡ buffer_after y out → Fills x out r o
  fills_by e f g = record { answered = f ∙ ap filling_answer (sym e); buffer = g ∙ ap (λ (y : Outcome). buffer_after y out) (sym e) }

  -- a refusal
  pub fills_refused : {k p : ℕ} {r : Result ℕ Refusal} → x ≡ refuses k p → r ≡ filling_answer (refuses k p) → Fills x out r out
  fills_refused e f = fills_by (ap (in_room (length out)) e) f refl

  -- bytes that are too long
  pub fills_short : {l : List ℕ} {r : Result ℕ Refusal} → x ≡ gives l → length out < length l → r ≡ filling_answer (refuses 14 0) → Fills x out r out
  fills_short {l} e h f = fills_by (ap (in_room (length out)) e ∙ no_room l (length out) h) f refl

  -- bytes that fit
  pub fills_given : {l o : List ℕ} {n : ℕ} → x ≡ gives l → length l ≤ length out → n ≡ length l → o ≡ filled out l → Fills x out (Ok n) o
  fills_given {l} e h f g = fills_by (ap (in_room (length out)) e ∙ in_room_lem l (length out) h) (ap Ok f) g

  -- what was done, in other words
  pub fills_same : {y : Outcome} {r : Result ℕ Refusal} {o : List ℕ} → x ≡ y → Fills y out r o → Fills x out r o
  fills_same e p = fills_by (ap (in_room (length out)) e) p.answered p.buffer

  -- a call that answers a refusal has kept the buffer
  pub fills_kept : {r : Result ℕ Refusal} {f : Refusal} → r ≡ filling_answer (in_room (length out) x) → r ≡ Err f → Fills x out r out
  fills_kept e g = fills_by (refused_is (in_room (length out) x) (sym g ∙ e)) g refl

-- what a call's answer tells of the buffer: an accepted filling changes only the first bytes, as many as it reports, and a refused one none

pub only_first_bytes : {o : Outcome} {out after : List ℕ} {n : ℕ} → Fills o out (Ok n) after
    → (n ≤ length out) × (o ≡ gives (take n after)) × (drop n after ≡ drop n out)
only_first_bytes {o} {out} {after} {n} h =
    let q = filled_is (in_room (length out) o) h.answered in
    let l : List ℕ = q.0 in
    let g = given_room (length out) o l q.1 in
    let held : after ≡ filled out l = h.buffer ∙ ap (λ (y : Outcome). buffer_after y out) q.1 in (
      omega (arith, g.1, q.2),
      g.0 ∙ ap gives (sym (ap (take n) held ∙ take_at l (drop (length l) out) n q.2)),
      ap (drop n) held ∙ drop_at l (drop (length l) out) n q.2 ∙ ap (λ (k : ℕ). drop k out) q.2,
    )

pub refused_unchanged : {o : Outcome} {out after : List ℕ} {r : Refusal} → Fills o out (Err r) after → after ≡ out
refused_unchanged {o} {out} h = h.buffer ∙ ap (λ (y : Outcome). buffer_after y out) (refused_is (in_room (length out) o) h.answered)
