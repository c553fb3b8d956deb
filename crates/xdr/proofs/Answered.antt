-- What an answer tells of the reading that it answers.
use Prim.Native.Nat.{ℕ, ◌+◌, ◌≤◌}
use mathlib.Core.List.{List}
use mathlib.Core.Path.{◌≡◌, refl, sym, ap, ◌∙◌}
use native.Mathlib.Omega.{arith}
use lib.ListN.{length, take, drop}
use Rattle.std.specs.Prelude.{Ok, Err, Some, None}
use Rattle.std.specs.Result.{result_ok}
use Rattle.std.specs.Result.{IsErrAnd}
use Rattle.std.proofs.lemmas.Result.{err_from_is_err_and}
use Rattle.std.specs.declared.result.Result.{Result}
use Rattle.xdr.specs.Reading.{Reading, taken, refused}
use Rattle.xdr.specs.Answers.{answer, word_answer, bytes_answer, refusal_of}
use Rattle.xdr.specs.Fields.{opaque}
use Rattle.xdr.specs.Format.{Format, read_at}
use Rattle.xdr.specs.Pad.{padded}
use Rattle.xdr.specs.declared.answer.Refusal.{Refusal}
use Rattle.xdr.proofs.Steps.{Reads, opened, passed, ends_word}

taken_is : {A B : Type 0} {f : A → ℕ → B} (r : Reading A) (b : B) → Ok b ≡ answer f r → (a : A) × (m : ℕ) × (r ≡ taken a m) × (f a m ≡ b)
taken_is (taken a m) b e = (a, m, refl, cc)
taken_is (refused k p) b e = cc

refused_is : {A B : Type 0} (f : A → ℕ → B) (r : Reading A) (g : Refusal) → Err g ≡ answer f r → r ≡ refused g.number g.place
refused_is f (taken v u) g e = cc
refused_is f (refused k p) g e = let same : g ≡ record { number = k; place = p } = cc in rw same refl

-- what `ok` keeps of an answer, and what it loses
pub ok_kept : {B : Type 0} (w : Result B Refusal) {b : B} → result_ok w ≡ Some b → w ≡ Ok b
ok_kept (Ok a) e = cc
ok_kept (Err f) e = cc

pub ok_lost : {B : Type 0} (w : Result B Refusal) → result_ok w ≡ None → (f : Refusal) × (w ≡ Err f)
ok_lost (Ok a) e = cc
ok_lost (Err f) e = (f, refl)

-- what a `?` hands on of a refusal
pub handed_on : {B : Type 0} {g : Refusal} (w : Result B Refusal) → IsErrAnd w (λ h. h ≡ g) → w ≡ Err g
handed_on w k = let p = err_from_is_err_and w k in p.1 ∙ ap Err p.2

-- the refusal of an answer is what is handed on
pub handed_up : {B C : Type 0} {f g : Refusal} {w : Result B Refusal} → w ≡ Err f → g ≡ refusal_of w → ◌≡◌ {A = Result C Refusal} (Err g) (Err f)
handed_up v e = ap Err (e ∙ ap refusal_of v)

-- and what the answer says
pub refusal_is : {B : Type 0} {f g : Refusal} {w : Result B Refusal} → w ≡ Err f → g ≡ refusal_of w → w ≡ Err g
refusal_is v e = v ∙ sym (handed_up v e)

-- by the answer w that was given, and the variant that it is
module _ {A B : Type 0} {F : Format A} (f : A → ℕ → B) {s : List ℕ} {at : ℕ} {w : Result B Refusal} (e : w ≡ answer f (read_at F s at)) where
  pub answer_taken : {b : B} → w ≡ Ok b → (a : A) × (m : ℕ) × Reads F s at (taken a m) × (f a m ≡ b)
  answer_taken {b} v = let q = taken_is {f = f} (read_at F s at) b (sym v ∙ e) in (q.0, q.1, record { is = q.2 }, q.3)

  pub answer_refused : {g : Refusal} → w ≡ Err g → Reads F s at (refused g.number g.place)
  answer_refused {g} v = record { is = refused_is f (read_at F s at) g (sym v ∙ e) }

-- of a value with the place after it
module _ {A B : Type 0} {F : Format A} (f : A → B) {s : List ℕ} {at : ℕ} {w : Result (B × ℕ) Refusal} (e : w ≡ answer (λ a next. (f a, next)) (read_at F s at)) where
  pub pair_taken : {b : B} {m : ℕ} → w ≡ Ok (b, m) → (a : A) × Reads F s at (taken a m) × (f a ≡ b)
  pair_taken {b} {m} v =
      let q = answer_taken {F = F} (λ a next. (f a, next)) e v in
      let there : q.1 ≡ m = ap (λ (p : B × ℕ). p.1) q.3 in
      (q.0, rw there at q.2, ap (λ (p : B × ℕ). p.0) q.3)

-- of a number the value itself is answered, of bytes their length
module _ {F : Format ℕ} {s : List ℕ} {at : ℕ} {w : Result (ℕ × ℕ) Refusal} (e : w ≡ word_answer (read_at F s at)) where
  pub word_taken : {n m : ℕ} → w ≡ Ok (n, m) → Reads F s at (taken n m)
  word_taken {n} {m} v = let q = pair_taken {F = F} (λ k. k) e v in rw q.2 at q.1

  pub word_refused : {g : Refusal} → w ≡ Err g → Reads F s at (refused g.number g.place)
  word_refused v = answer_refused {F = F} (λ n next. (n, next)) e v

module _ {F : Format (List ℕ)} {s : List ℕ} {at : ℕ} {w : Result (ℕ × ℕ) Refusal} (e : w ≡ bytes_answer (read_at F s at)) where
  pub bytes_taken : {n m : ℕ} → w ≡ Ok (n, m) → (l : List ℕ) × Reads F s at (taken l m) × (length l ≡ n)
  bytes_taken v = pair_taken {F = F} length e v

  pub bytes_refused : {g : Refusal} → w ≡ Err g → Reads F s at (refused g.number g.place)
  bytes_refused v = answer_refused {F = F} (λ l next. (length l, next)) e v

-- what is known of an opaque of n bytes that was read at a place
pub record OpaqueAt (limit : ℕ) (s : List ℕ) (at n next : ℕ) : Type 0 where
  pub value : List ℕ
  pub opaque_is : Reads (opaque limit) s at (taken value next)
  pub long : length value ≡ n
  pub value_is : value ≡ take n (drop (at + 4) s)
  pub ends : next ≡ at + 4 + padded n
  pub room : next ≤ length s

pub opaque_taken : {limit : ℕ} {s : List ℕ} {at : ℕ} {w : Result (ℕ × ℕ) Refusal} {n next : ℕ}
    → w ≡ bytes_answer (read_at (opaque limit) s at) → w ≡ Ok (n, next) → OpaqueAt limit s at n next
opaque_taken {limit} {s} {at} {w} {n} {next} e v =
    let q = bytes_taken {F = opaque limit} e v in
    let o = opened q.1 in
    let w = ends_word (passed o.size) in
    record {
      value = q.0;
      opaque_is = q.1;
      long = q.2;
      value_is = o.contents_are ∙ rw (q.2, w.0) refl;
      ends = o.ends ∙ rw (q.2, w.0) refl;
      room = let r = o.room in omega (arith, w.1, o.ends);
    }
