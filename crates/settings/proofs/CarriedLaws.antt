-- Reading carried fields: from another place, and how far it goes.
use Prim.Native.Nat.{ℕ, zero, suc, ◌+◌, ◌≤◌}
use mathlib.Core.List.{List, [], ◌∷◌}
use mathlib.Core.Path.{◌≡◌, refl, sym, ap, subst, ◌∙◌}
use mathlib.Core.Bool.{Bool, true, false, cond}
use native.Mathlib.Omega.{arith}
use native.Mathlib.Nat.{add-zero}
use borrow.Author.Tests.{eqb-true}
use lib.ListN.{length}
use lib.Dec.{eqb}
use Rattle.std.specs.Prelude.{Ok, Err}
use Rattle.std.specs.declared.result.Result.{Result}
use Rattle.xdr.specs.Reading.{Reading, taken, refused}
use Rattle.xdr.specs.declared.answer.Refusal.{Refusal}
use Rattle.settings.specs.Field.{size_of, contents_of, fault}
use Rattle.settings.specs.Reading.{none, with_field, read_from, settings_answer}
use Rattle.settings.specs.Steps.{end_answer}
use Rattle.settings.specs.declared.answer.Settings.{Settings}
use Rattle.settings.proofs.FieldLaws.{no_fault}

-- an answer n bytes further on
abbrev further : ℕ → Result ℕ Refusal → Result ℕ Refusal
further n (Ok m) = Ok (n + m)
further n (Err r) = Err (record { number = r.number; place = n + r.place })

moved : (l : List ℕ) (skip least at n : ℕ) (so so' : Settings) → end_answer (read_from l skip least (n + at) so') ≡ further n (end_answer (read_from l skip least at so))
unfolding read_from
moved [] skip least at n so so' = refl
moved (b ∷ l) (suc skip) least at n so so' =
    let same : suc (n + at) ≡ n + suc at = omega arith in
    ap (λ (k : ℕ). end_answer (read_from l skip least k so')) same ∙ moved l skip least (suc at) n so so'
moved (b ∷ l) zero least at n so so' =
    let same : suc (n + at) ≡ n + suc at = omega arith in
    go (read_from l (2 + size_of l) (suc b) (suc (n + at)) (with_field so' (n + at + 3) b (contents_of l))) (read_from l (2 + size_of l) (suc b) (suc at) (with_field so (at + 3) b (contents_of l)))
    (eqb (fault least b l) 0)
    (ap (λ (k : ℕ). end_answer (read_from l (2 + size_of l) (suc b) k (with_field so' (n + at + 3) b (contents_of l)))) same
    ∙ moved l (2 + size_of l) (suc b) (suc at) n (with_field so (at + 3) b (contents_of l)) (with_field so' (n + at + 3) b (contents_of l)))
  where
    go : (x y : Reading Settings) (d : Bool) → end_answer x ≡ further n (end_answer y)
        → end_answer (cond d x (refused (fault least b l) (n + at))) ≡ further n (end_answer (cond d y (refused (fault least b l) at)))
    go x y true e = e
    go x y false e = refl

-- reading goes to the end, or stops before it
abbrev EndsAt : ℕ → Result ℕ Refusal → Type 0
EndsAt end (Ok n) = n ≡ end
EndsAt end (Err r) = r.place ≤ end

pub ends : (l : List ℕ) (skip least at : ℕ) (so : Settings) → skip ≤ length l → EndsAt (at + length l) (end_answer (read_from l skip least at so))
unfolding read_from
ends [] skip least at so h = sym (add-zero at)
ends (b ∷ l) (suc skip) least at so h =
    let same : suc at + length l ≡ at + suc (length l) = omega arith in
    subst (λ (k : ℕ). EndsAt k (end_answer (read_from l skip least (suc at) so))) same (ends l skip least (suc at) so (omega arith))
ends (b ∷ l) zero least at so h =
    let same : suc at + length l ≡ at + suc (length l) = omega arith in
    go (read_from l (2 + size_of l) (suc b) (suc at) (with_field so (at + 3) b (contents_of l))) (eqb (fault least b l) 0) refl
    (λ k. subst (λ (k : ℕ). EndsAt k (end_answer (read_from l (2 + size_of l) (suc b) (suc at) (with_field so (at + 3) b (contents_of l))))) same (ends l (2 + size_of l) (suc b) (suc at) (with_field so (at + 3) b (contents_of l)) k))
  where
    go : (x : Reading Settings) (d : Bool) → eqb (fault least b l) 0 ≡ d → (2 + size_of l ≤ length l → EndsAt (at + suc (length l)) (end_answer x)) → EndsAt (at + suc (length l)) (end_answer (cond d x (refused (fault least b l) at)))
    go x true e k = k (no_fault least b l (eqb-true (fault least b l) 0 e)).0
    go x false e k = omega arith

pub filled_end : (l : List ℕ) (least at : ℕ) (so : Settings) {n : ℕ} → end_answer (read_from l 0 least at so) ≡ Ok n → n ≡ at + length l
filled_end l least at so e = subst (EndsAt (at + length l)) e (ends l 0 least at so (omega arith))

-- carried fields, read from the start of their own slice
module _ (l : List ℕ) (least at : ℕ) (so : Settings) where
  from_start : end_answer (read_from l 0 least at so) ≡ further at (end_answer (read_from l 0 least 0 none))
  from_start = ap (λ (k : ℕ). end_answer (read_from l 0 least k so)) (sym (add-zero at)) ∙ moved l 0 least 0 at none so

  pub carried_taken : {s : Settings} → Ok s ≡ settings_answer (read_from l 0 least 0 none) → Ok (at + length l) ≡ end_answer (read_from l 0 least at so)
  carried_taken {s} e = go (read_from l 0 least 0 none) refl e
    where
      go : (r : Reading Settings) → read_from l 0 least 0 none ≡ r → Ok s ≡ settings_answer r → Ok (at + length l) ≡ end_answer (read_from l 0 least at so)
      go (taken x n) q f =
          let long : n ≡ 0 + length l = filled_end l least 0 none (ap end_answer q) in
          let same : at + length l ≡ at + n = omega arith in
          ap Ok same ∙ sym (from_start ∙ ap (λ (r : Reading Settings). further at (end_answer r)) q)
      go (refused k p) q f = cc

  pub carried_refused : {r : Refusal} → Err r ≡ settings_answer (read_from l 0 least 0 none)
      → (r.place ≤ length l) × (Err (record { number = r.number; place = at + r.place }) ≡ end_answer (read_from l 0 least at so))
  carried_refused {r} e = go (read_from l 0 least 0 none) refl e
    where
      go : (x : Reading Settings) → read_from l 0 least 0 none ≡ x → Err r ≡ settings_answer x
          → (r.place ≤ length l) × (Err (record { number = r.number; place = at + r.place }) ≡ end_answer (read_from l 0 least at so))
      go (taken y n) q f = cc
      go (refused k p) q f =
          let same : r ≡ record { number = k; place = p } = cc in
          let within : p ≤ 0 + length l = subst (EndsAt (0 + length l)) (ap end_answer q) (ends l 0 least 0 none (omega arith)) in
          let place : r.place ≡ p = ap (λ (x : Refusal). x.place) same in (
            omega arith,
            ap (λ (x : Refusal). Err (record { number = x.number; place = at + x.place })) same ∙ sym (from_start ∙ ap (λ (x : Reading Settings). further at (end_answer x)) q),
          )
