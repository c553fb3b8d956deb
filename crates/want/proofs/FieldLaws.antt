-- The record that stands at a place: its fields, and that they are within the bytes.
use Rattle.std.specs.Prelude.{Ok, Err, Some, None}
use Rattle.std.specs.declared.result.Result.{Result}
use Rattle.std.specs.declared.option.Option.{Option}
use Prim.Native.Nat.{ℕ, ◌+◌, ◌-◌, ◌*◌, ◌≤◌, ◌<◌}
use mathlib.Core.List.{List, [], ◌∷◌}
use mathlib.Core.Path.{◌≡◌, refl, sym, ap, subst, ◌∙◌}
use mathlib.Core.Bool.{Bool, true, false, cond}
use native.Mathlib.Omega.{arith}
use borrow.Author.Tests.{le-leb, leb-true}
use lib.Dec.{leb}
use lib.ListN.{length, take, drop, length-drop, length-take}
use Rattle.xdr.specs.Number.{big_endian}
use Rattle.xdr.specs.Answers.{word_answer}
use Rattle.xdr.specs.Format.{read_at}
use Rattle.xdr.specs.Fields.{word}
use Rattle.xdr.specs.Pad.{padded}
use Rattle.xdr.specs.declared.answer.Refusal.{Refusal}
use Rattle.xdr.proofs.Answered.{word_taken, word_refused}
use Rattle.xdr.proofs.NumberLaws.{number_first, two_words}
use Rattle.xdr.proofs.Parts.{number_value, number_missing}
use Rattle.record.specs.File.{File}
use Rattle.record.specs.Outline.{word_at, hyper_at, fields_from, outline_from, outline_of, fields_of}
use Rattle.record.specs.declared.outline.RecordFields.{RecordFields}
use Rattle.record.proofs.OutlineLaws.{outline_cut}
use Rattle.table.specs.Steps.Standing.{At}
use Rattle.table.proofs.WalkLaws.{standing, at_whole}
use Rattle.want.specs.Steps.Head.{fields_at, Stands, Stood, Kept}

-- a word that is there, by the answer that was given

module _ (s : List ℕ) (at : ℕ) {w : Result (ℕ × ℕ) Refusal} (e : w ≡ word_answer (read_at word (take (at + 4 - at) (drop at s)) 0)) where
  pub word_there : {n m : ℕ} → w ≡ Ok (n, m) → n ≡ word_at s at
  unfolding word_at
  word_there v = number_value (word_taken e v) ∙ number_first 4 (at + 4 - at) (drop at s) (omega arith)

  pub word_cut : {f : Refusal} {P : Type 0} → at + 4 ≤ length s → w ≡ Err f → P
  word_cut h v =
      let m = number_missing (word_refused e v) in
      absurd (omega (arith, m, length-take (at + 4 - at) (drop at s), length-drop at s))

-- two words, the higher first
pub eight_is : (s : List ℕ) (at : ℕ) → big_endian 8 (drop at s) ≡ hyper_at s at
unfolding word_at hyper_at
eight_is s at = two_words s at

module _ (t : List ℕ) (at : ℕ) where
  whole_in : (b : Bool) (p : ℕ) {f g : RecordFields} → leb p (length t) ≡ b → cond b (Some f) None ≡ Some g → (g ≡ f) × (p ≤ length t)
  whole_in true p e q = (cc, leb-true p (length t) e)
  whole_in false p e q = cc

  -- by the outline of a record
  whole_fields : {g : RecordFields} → outline_of t at ≡ Some g → (g ≡ fields_at t at) × ((fields_at t at).past ≤ length t)
  unfolding outline_of outline_from
  whole_fields q = whole_in (leb (fields_at t at).past (length t)) (fields_at t at).past refl q

  -- by the numbers that were read
  pub fields_read : {n b f m v : ℕ} → n ≡ word_at t at → b ≡ word_at t (at + 4 + padded n + 16) → f ≡ word_at t (at + 4 + padded n) → m ≡ big_endian 8 (drop (at + 4 + padded n + 4) t) → v ≡ word_at t (at + 4 + padded n + 12)
      → record { name = at + 4; stop = at + 4 + n; rest = at + 4 + padded n; flags = f; modified = m; version = v; blocks = b; first = at + 4 + padded n + 20; past = at + 4 + padded n + 20 + b * 40 } ≡ fields_at t at
  fields_read {n} e i j k l =
      let m_is = k ∙ eight_is t (at + 4 + padded n + 4) in
      simp (i, j, m_is, l) (ap (λ (x : ℕ). fields_from t (at + 4) (at + 4 + x) (at + 4 + padded x)) e)

  pub outline_whole : {g : RecordFields} → g ≡ fields_at t at → (fields_at t at).past ≤ length t → Some g ≡ outline_of t at
  unfolding outline_of outline_from
  outline_whole e h = ap Some e ∙ sym (ap (λ (b : Bool). cond b (Some (fields_at t at)) None) (le-leb (fields_at t at).past (length t) h))

  pub outline_none : length t ≤ at → None ≡ outline_of t at
  outline_none h = outline_cut t at (word_at t at) refl (omega arith)

  -- a record stands where the bytes don't end
  pub stands_there : Stands t at → at < length t → Stood t (fields_at t at)
  stands_there w h = go w.0 w.1
    where
      go : (fs : List File) → At t at fs → Stood t (fields_at t at)
      go [] x = let l : length t - at ≡ 0 = simp length-drop at (ap length x.here) in absurd (omega arith)
      go (f ∷ fs) x = record { place = at; head = f; tail = fs; fields_are = sym (whole_fields (standing x).outline_is).0; here = x }

-- an outline that was kept
pub kept_stood : {t : List ℕ} {o : Option RecordFields} {f : RecordFields} → Kept t o → o ≡ Some f → Stood t f
kept_stood k e = let w = at_whole k.2.1 k.1 e in record { place = k.0; head = w.head; tail = w.tail; fields_are = w.fields; here = w.stands }

-- its parts follow each other, within the bytes
pub record Within (t : List ℕ) (f : RecordFields) : Type 0 where
  pub named : f.name ≤ f.stop
  pub named_inside : f.stop ≤ length t
  pub listed : f.first ≤ f.past
  pub inside : f.past ≤ length t
  pub rested : f.first ≡ f.rest + 20
  pub sized : f.past ≡ f.first + f.blocks * 40

pub within : {t : List ℕ} {f : RecordFields} → Stood t f → Within t f
within {t} w = subst (λ (x : RecordFields). Within t x) (sym w.fields_are) go
  where
    go : Within t (fields_of w.place w.head)
    go = let h = (standing w.here).next.inside in record { named = omega arith; named_inside = omega arith; listed = omega arith; inside = h; rested = refl; sized = refl }

pub whole_there : (t : List ℕ) (at : ℕ) → Stood t (fields_at t at) → outline_of t at ≡ Some (fields_at t at)
whole_there t at w = sym (outline_whole t at refl (within w).inside)

-- in tables that are lent as others

pub stands_in : {s t : List ℕ} (at : ℕ) → Stands t at → s ≡ t → Stands s at
stands_in at w e = subst (λ (l : List ℕ). Stands l at) (sym e) w

pub kept_in : {s t : List ℕ} (at : ℕ) {o : Option RecordFields} → o ≡ outline_of t at → Stands t at → s ≡ t → Kept s o
kept_in at e w k = (at, e ∙ ap (λ (l : List ℕ). outline_of l at) (sym k), stands_in at w k)
