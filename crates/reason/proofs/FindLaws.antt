-- Walking a table for the record of a name: what the loop keeps.
use Rattle.std.specs.Prelude.{Some, None}
use Rattle.std.specs.declared.option.Option.{Option}
use Prim.Native.Nat.{ℕ, ◌+◌, ◌≤◌}
use mathlib.Core.List.{List, [], ◌∷◌}
use mathlib.Core.Path.{◌≡◌, refl, sym, ap, subst, ◌∙◌}
use mathlib.Core.Bool.{Bool, true, false, cond}
use native.Mathlib.Omega.{arith}
use lib.ListN.{length}
use Rattle.xdr.specs.Number.{IsBytes}
use Rattle.order.specs.Order.{is_equal, compare_lists, part}
use Rattle.record.specs.File.{File}
use Rattle.record.specs.Outline.{outline_of, fields_of}
use Rattle.record.specs.declared.outline.RecordFields.{RecordFields}
use Rattle.table.specs.Table.{is_good, records}
use Rattle.table.specs.Steps.Standing.{At}
use Rattle.table.proofs.TableLaws.{good_table}
use Rattle.table.proofs.WalkLaws.{at_start_lem, standing, Headed, at_whole, at_short}
use Rattle.reason.specs.Steps.{named_from}

-- before a place no record has the name
pub record Seeking (t name : List ℕ) (at : ℕ) : Type 0 where
  pub left : List File
  pub here : At t at left
  pub same : named_from name (records t) ≡ named_from name left

pub seek_starts : (t name : List ℕ) → IsBytes t → is_good t ≡ true → Seeking t name 4
seek_starts t name p g = record { left = records t; here = at_start_lem (good_table t p g); same = refl }

module _ {t name : List ℕ} {at : ℕ} (w : Seeking t name at) where
  -- no record is left
  pub seek_ends : {x : Option RecordFields} → x ≡ outline_of t at → x ≡ None → At t at (named_from name (records t))
  seek_ends e g =
      let none : w.left ≡ [] = at_short w.here e g in
      subst (At t at) (none ∙ sym (w.same ∙ ap (named_from name) none)) w.here

  module _ {x : Option RecordFields} {f : RecordFields} (e : x ≡ outline_of t at) (g : x ≡ Some f) where
    headed : Headed t at w.left f
    headed = at_whole w.here e g

    name_is : part t f.name f.stop ≡ headed.head.name
    name_is = ap (λ (y : RecordFields). part t y.name y.stop) headed.fields ∙ (standing headed.stands).name_is

    by_name_lem : named_from name (records t) ≡ cond (is_equal (compare_lists (part t f.name f.stop) name)) (headed.head ∷ headed.tail) (named_from name headed.tail)
    by_name_lem =
        w.same ∙ ap (named_from name) headed.is
        ∙ ap (λ (l : List ℕ). cond (is_equal (compare_lists l name)) (headed.head ∷ headed.tail) (named_from name headed.tail)) (sym name_is)

    -- the record here has it
    pub seek_found : is_equal (compare_lists (part t f.name f.stop) name) ≡ true → At t at (named_from name (records t))
    seek_found h = subst (At t at) (sym (by_name_lem ∙ ap (λ (b : Bool). cond b (headed.head ∷ headed.tail) (named_from name headed.tail)) h)) headed.stands

    past_is : f.past ≡ (fields_of at headed.head).past
    past_is = ap (λ (y : RecordFields). y.past) headed.fields

    -- it has another
    pub seek_on : is_equal (compare_lists (part t f.name f.stop) name) ≡ false → Seeking t name f.past
    seek_on h = record {
      left = headed.tail;
      here = subst (λ (p : ℕ). At t p headed.tail) (sym past_is) (standing headed.stands).next;
      same = by_name_lem ∙ ap (λ (b : Bool). cond b (headed.head ∷ headed.tail) (named_from name headed.tail)) h;
    }

    pub seek_grows : (at + 1 ≤ f.past) × (f.past ≤ length t)
    seek_grows = (omega (arith, past_is), omega (arith, past_is, (standing headed.stands).next.inside))
