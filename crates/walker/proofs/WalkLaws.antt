-- Walking from record to record up to a place.
use Rattle.std.specs.Prelude.{Ok, Some, None}
use Rattle.std.specs.declared.option.Option.{Option}
use Prim.Native.Nat.{ℕ, ◌+◌, ◌<◌}
use mathlib.Core.List.{List, [], ◌∷◌}
use mathlib.Core.Path.{◌≡◌, refl, sym, ap, subst, ◌∙◌}
use mathlib.Core.Bool.{true, false}
use native.Mathlib.Omega.{arith}
use borrow.Author.Tests.{eq-eqb, ne_eqb}
use lib.ListN.{length}
use Rattle.xdr.specs.Number.{IsBytes}
use Rattle.xdr.specs.Format.{encode}
use Rattle.record.specs.File.{File, file}
use Rattle.record.specs.Outline.{outline_of, fields_of}
use Rattle.record.specs.declared.outline.RecordFields.{RecordFields}
use Rattle.table.specs.Table.{is_good, records}
use Rattle.table.proofs.TableLaws.{good_table}
use Rattle.table.specs.Steps.Standing.{At}
use Rattle.table.proofs.WalkLaws.{at_start_lem, standing, Headed, at_whole, at_short}
use Rattle.walker.specs.Walk.{bad, step_among, step_at}

pub table_bad : (t : List ℕ) (at : ℕ) → is_good t ≡ false → bad ≡ step_at t at
unfolding step_at
table_bad t at e = rw e refl

-- the walk has come to a place where records begin, and has not passed the place that is asked for
pub record Come (t : List ℕ) (at place : ℕ) : Type 0 where
  pub rest : List File
  pub here : At t place rest
  pub left : step_at t at ≡ step_among rest place at

pub come_start : (t : List ℕ) (at : ℕ) → IsBytes t → is_good t ≡ true → Come t at 4
unfolding step_at
come_start t at b g = record { rest = records t; here = at_start_lem (good_table t b g); left = rw g refl }

-- a place before the records is none of them
passed : (fs : List File) (place at : ℕ) → at < place → step_among fs place at ≡ bad
passed [] place at h = rw (ne_eqb place at (λ e. omega arith)) refl
passed (f ∷ fs) place at h = rw (ne_eqb place at (λ e. omega arith)) (passed fs (place + length (encode file f)) at (omega arith))

module _ {t : List ℕ} {at place : ℕ} (c : Come t at place) where
  pub come_past : at < place → bad ≡ step_at t at
  come_past h = sym (c.left ∙ passed c.rest place at h)

  -- by the outline that was answered

  pub come_end : {x : Option RecordFields} → place < at → x ≡ outline_of t place → x ≡ None → bad ≡ step_at t at
  come_end h e q = sym (c.left ∙ ap (λ (l : List File). step_among l place at) (at_short c.here e q) ∙ rw (ne_eqb place at (λ e. omega arith)) refl)

  module _ {x : Option RecordFields} {g : RecordFields} (h : place < at) (e : x ≡ outline_of t place) (q : x ≡ Some g) where
    r : Headed t place c.rest g
    r = at_whole c.here e q

    past_is : g.past ≡ (fields_of place r.head).past
    past_is = ap (λ (y : RecordFields). y.past) r.fields

    pub come_on : Come t at g.past
    come_on = record {
      rest = r.tail;
      here = subst (λ (p : ℕ). At t p r.tail) (sym past_is) (standing r.stands).next;
      left =
          c.left
          ∙ ap (λ (l : List File). step_among l place at) r.is
          ∙ rw (ne_eqb place at (λ e. omega arith)) refl
          ∙ ap (λ (p : ℕ). step_among r.tail p at) (sym (past_is ∙ (standing r.stands).sized));
    }

    pub come_grows : place < g.past
    come_grows = omega (arith, past_is)

  module _ (same : place ≡ at) {x : Option RecordFields} (e : x ≡ outline_of t at) where
    at_here : At t at c.rest
    at_here = subst (λ (p : ℕ). At t p c.rest) same c.here

    left_here : step_at t at ≡ step_among c.rest at at
    left_here = c.left ∙ ap (λ (p : ℕ). step_among c.rest p at) same

    pub ended : x ≡ None → Ok None ≡ step_at t at
    ended q = sym (left_here ∙ ap (λ (l : List File). step_among l at at) (at_short at_here e q) ∙ rw (eq-eqb at at refl) refl)

    pub found : {g : RecordFields} → x ≡ Some g → Ok (Some g) ≡ step_at t at
    found q =
        let r = at_whole at_here e q in
        ap (λ (y : RecordFields). Ok (Some y)) r.fields ∙ sym (left_here ∙ ap (λ (l : List File). step_among l at at) r.is ∙ rw (eq-eqb at at refl) refl)
