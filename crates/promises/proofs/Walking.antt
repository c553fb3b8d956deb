-- A walker yields one record after another.
use Rattle.std.specs.Prelude.{Ok, Some, None}
use Rattle.std.specs.declared.result.Result.{Result}
use Rattle.std.specs.declared.option.Option.{Option}
use Rattle.xdr.specs.declared.answer.Refusal.{Refusal}
use Prim.Native.Nat.{ℕ, zero, suc, ◌+◌, ◌≤◌}
use mathlib.Core.List.{List, [], ◌∷◌, ◌++◌}
use mathlib.Core.Path.{◌≡◌, refl, sym, ap, subst, ◌∙◌}
use mathlib.Core.Bool.{true}
use native.Mathlib.Omega.{arith}
use native.Mathlib.Nat.{zero-add, suc-add}
use borrow.Author.Tests.{eq-eqb, ne_eqb}
use lib.ListN.{length, replicate, length-drop}
use Rattle.xdr.specs.Number.{IsBytes}
use Rattle.xdr.specs.Format.{encode}
use Rattle.record.specs.File.{File, file}
use Rattle.record.specs.Outline.{fields_of}
use Rattle.table.specs.Table.{is_good, records}
use Rattle.table.proofs.TableLaws.{good_table}
use Rattle.table.specs.Steps.Standing.{At}
use Rattle.table.proofs.WalkLaws.{at_start_lem, standing}
use Rattle.walker.specs.Walk.{step_among, step_at, next_place, given, stepped}
use Rattle.record.specs.declared.outline.RecordFields.{RecordFields}
use Rattle.walker.specs.declared.Walker.{Walker}
use Rattle.promises.specs.Walking.{walked, walked_on, as_steps, Yields}

-- the walker stands where some records begin, and no place from there on is one of those before it
record Stands (w : Walker) (fs : List File) : Type 0 where
  here : At w.table.now w.at fs
  left : (at : ℕ) → w.at ≤ at → step_at w.table.now at ≡ step_among fs w.at at

-- the walker that a step leaves
moved : (w : Walker) (x : Result (Option RecordFields) Refusal) → given w ≡ x → stepped w ≡ record { table = w.table; at = next_place x w.at }
moved w x e = ap (λ (y : Result (Option RecordFields) Refusal). record { table = w.table; at = next_place y w.at }) e

module _ (w : Walker) where
  at_end : Stands w [] → (given w ≡ (Ok None)) × (stepped w ≡ w)
  at_end s =
      let e : given w ≡ (Ok None) = s.left w.at (omega arith) ∙ rw (eq-eqb w.at w.at refl) refl in
      (e, moved w (Ok None) e)

  at_record : (f : File) (fs : List File) → Stands w (f ∷ fs) → given w ≡ Ok (Some (fields_of w.at f))
  at_record f fs s = s.left w.at (omega arith) ∙ rw (eq-eqb w.at w.at refl) refl

-- past a record
abbrev past : Walker → File → Walker
past w f = record { table = w.table; at = w.at + length (encode file f) }

module _ (w : Walker) (f : File) (fs : List File) (s : Stands w (f ∷ fs)) where
  goes_past : stepped w ≡ past w f
  goes_past = moved w (Ok (Some (fields_of w.at f))) (at_record w f fs s) ∙ ap (λ (k : ℕ). record { table = w.table; at = k }) (standing s.here).sized

  stands_past : Stands (past w f) fs
  stands_past =
      let size = (standing s.here).sized in
      record {
        here = subst (λ (k : ℕ). At w.table.now k fs) size (standing s.here).next;
        left = λ at h. s.left at (omega arith) ∙ rw (ne_eqb w.at at (λ e. omega (arith, size))) refl;
      }

-- nothing but the end from there on
ends : (w : Walker) (n : ℕ) → Stands w [] → (walked w n ≡ replicate n (Ok None)) × (walked_on w n ≡ w)
ends w zero s = (refl, refl)
ends w (suc n) s =
    let e = at_end w s in
    let ih = ends w n s in
    (ap (λ (x : Result (Option RecordFields) Refusal). x ∷ walked (stepped w) n) e.0 ∙ ap (λ (v : Walker). (Ok None) ∷ walked v n) e.1 ∙ ap (λ (l : List (Result (Option RecordFields) Refusal)). (Ok None) ∷ l) ih.0, ap (λ (v : Walker). walked_on v n) e.1 ∙ ih.1)

-- the walk's end is the table's
ends_at : (w : Walker) → Stands w [] → w.at ≡ length w.table.now
ends_at w s = let h = simp length-drop at (ap length s.here.here) in omega (arith, s.here.inside, h)

yields : (fs : List File) (w : Walker) (n : ℕ) → Stands w fs → (walked w (length fs + n) ≡ as_steps w.at fs ++ replicate n (Ok None)) × ((walked_on w (length fs + n)).at ≡ length w.table.now)
yields [] w n s =
    let e = ends w n s in
    (ap (walked w) (zero-add n) ∙ e.0, ap (λ (k : ℕ). (walked_on w k).at) (zero-add n) ∙ ap (λ (v : Walker). v.at) e.1 ∙ ends_at w s)
yields (f ∷ fs) w n s =
    let e = goes_past w f fs s in
    let ih = yields fs (past w f) n (stands_past w f fs s) in (
      ap (walked w) (suc-add (length fs) n)
          ∙ ap (λ (x : Result (Option RecordFields) Refusal). x ∷ walked (stepped w) (length fs + n)) (at_record w f fs s)
          ∙ ap (λ (l : List (Result (Option RecordFields) Refusal)). Ok (Some (fields_of w.at f)) ∷ l) (ap (λ (v : Walker). walked v (length fs + n)) e ∙ ih.0),
      ap (λ (k : ℕ). (walked_on w k).at) (suc-add (length fs) n) ∙ ap (λ (v : Walker). (walked_on v (length fs + n)).at) e ∙ ih.1,
    )

-- from place 4, where it opens, over any good table
pub walker_yields : (w : Walker) → w.at ≡ 4 → IsBytes w.table.now → is_good w.table.now ≡ true → Yields w
unfolding step_at
walker_yields w e b g =
    let t = w.table.now in
    let start : Stands w (records t) = record {
      here = subst (λ (k : ℕ). At t k (records t)) (sym e) (at_start_lem (good_table t b g));
      left = λ at h. rw g (ap (λ (k : ℕ). step_among (records t) k at) (sym e));
    } in
    record {
      gives = λ n. (yields (records t) w n start).0 ∙ ap (λ (k : ℕ). as_steps k (records t) ++ replicate n (Ok None)) e;
      stays = λ n. (yields (records t) w n start).1;
    }
