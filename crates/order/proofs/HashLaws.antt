-- Eight bytes of a run at a time: what a read of them tells, and what the loop over two hashes keeps.
use Prim.Native.Nat.{ℕ, ◌+◌, ◌-◌, ◌≤◌}
use mathlib.Core.List.{List}
use mathlib.Core.Path.{◌≡◌, refl, sym, ap, ◌∙◌}
use mathlib.Core.Logic.{◌⊎◌, inl, inr}
use mathlib.Core.Bool.{Bool, true, false}
use native.Mathlib.Omega.{arith}
use lib.ListN.{length, take, drop, length-drop, length-take}
use Rattle.xdr.specs.Number.{IsBytes, big_endian}
use Rattle.xdr.specs.Answers.{hyper_answer}
use Rattle.xdr.specs.Format.{read_at}
use Rattle.xdr.specs.Fields.{hyper}
use Rattle.std.specs.Prelude.{Ok, Err}
use Rattle.std.specs.declared.result.Result.{Result}
use Rattle.xdr.specs.declared.answer.Refusal.{Refusal}
use Rattle.xdr.proofs.Answered.{word_taken, word_refused}
use Rattle.xdr.proofs.NumberLaws.{number_first}
use Rattle.xdr.proofs.Parts.{number_value, number_missing}
use Rattle.order.specs.Order.{is_equal, compare_lists}
use Rattle.order.proofs.OrderLaws.{both_ended}
use Rattle.order.proofs.SameLaws.{differ}
use Rattle.order.proofs.WordLaws.{word_same}

-- eight bytes that are there, by the answer that was given

module _ (s : List ℕ) (at : ℕ) {w : Result (ℕ × ℕ) Refusal} (e : w ≡ hyper_answer (read_at hyper (take (at + 8 - at) (drop at s)) 0)) where
  pub eight_taken : {x m : ℕ} → w ≡ Ok (x, m) → x ≡ big_endian 8 (drop at s)
  eight_taken v = number_value (word_taken e v) ∙ number_first 8 (at + 8 - at) (drop at s) (omega arith)

  pub eight_refused : {f : Refusal} {P : Type 0} → at + 8 ≤ length s → w ≡ Err f → P
  eight_refused h v =
      let m = number_missing (word_refused e v) in
      absurd (omega (arith, m, length-take (at + 8 - at) (drop at s), length-drop at s))

-- the loop: `same` tells whether the bytes before i are the same
pub record Agree (a b : List ℕ) (i : ℕ) (same : Bool) : Type 0 where
  pub so_far : same ≡ true → compare_lists a b ≡ compare_lists (drop i a) (drop i b)
  pub not_so : same ≡ false → a ≡ b → ⊥

pub agree_starts : (a b : List ℕ) → Agree a b 0 true
agree_starts a b = record { so_far = λ e. refl; not_so = λ e. cc }

pub agree_turn : {a b : List ℕ} {i : ℕ} {same t : Bool} {x y : ℕ} → Agree a b i same → IsBytes a → IsBytes b → i + 8 ≤ length a → i + 8 ≤ length b → x ≡ big_endian 8 (drop i a) → y ≡ big_endian 8 (drop i b)
    → ((x ≡ y → ⊥) × (t ≡ false)) ⊎ ((x ≡ y) × (t ≡ same)) → Agree a b (i + 8) t
agree_turn {a} {b} {i} {same} {t} w p q h g e f (inl d) =
    record {
      so_far = λ r. let z : ◌≡◌ {A = Bool} false true = sym d.1 ∙ r in let y : ◌≡◌ {A = ℕ} 0 1 = cc in absurd (omega arith);
      not_so = λ r s. d.0 (e ∙ ap (λ (l : List ℕ). big_endian 8 (drop i l)) s ∙ sym f);
    }
agree_turn {a} {b} {i} {same} {t} w p q h g e f (inr d) =
    record { so_far = λ r. w.so_far (sym d.1 ∙ r) ∙ word_same 8 a b i p q h g e f d.0; not_so = λ r. w.not_so (sym d.1 ∙ r) }

pub agree_ends : {a b : List ℕ} {i : ℕ} {same : Bool} → Agree a b i same → length a ≤ i → length b ≤ i → same ≡ is_equal (compare_lists a b)
agree_ends {a} {b} {i} {same} w h g = go same refl
  where
    go : (v : Bool) → same ≡ v → v ≡ is_equal (compare_lists a b)
    go true e = sym (ap is_equal (w.so_far e ∙ both_ended a b i h g))
    go false e = differ a b (w.not_so e)
