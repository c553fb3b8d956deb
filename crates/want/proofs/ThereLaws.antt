-- What the record at a place gives for a name.
use Rattle.std.specs.Prelude.{Some, None}
use Rattle.std.specs.declared.option.Option.{Option}
use Prim.Native.Nat.{ℕ, ◌+◌, ◌≤◌, ◌<◌}
use mathlib.Core.List.{List}
use mathlib.Core.Path.{◌≡◌, refl, sym, ap, ◌∙◌}
use mathlib.Core.Bool.{Bool, true, false, cond}
use native.Mathlib.Omega.{arith}
use borrow.Author.Tests.{leb-true}
use lib.ListN.{length}
use lib.Dec.{leb}
use Rattle.record.specs.Block.{Block}
use Rattle.record.specs.Outline.{blocks_size, outline_from, outline_of, outlined}
use Rattle.record.specs.declared.outline.RecordFields.{RecordFields}
use Rattle.order.specs.Order.{is_equal, compare_lists, part}
use Rattle.std.specs.declared.cmp.Ordering.{Ordering}
use Rattle.want.specs.Listing.{is_current, has_there}
use Rattle.want.specs.Steps.Blocks.{blocks_from, listed_count}
use Rattle.want.specs.Steps.Places.{past_by, past_name, lists_by, lists_at}
use Rattle.want.specs.Steps.Runs.{Marked, mark_of}
use Rattle.want.proofs.ListingLaws.{listed_few}
use Rattle.want.proofs.RunLaws.{run_of, marked_first}

-- the blocks of an outline are within the bytes

whole_by : (t : Bool) (f g : RecordFields) → cond t (Some g) None ≡ Some f → (t ≡ true) × (g ≡ f)
whole_by true f g e = (refl, cc)
whole_by false f g e = cc

inside_by : (s : List ℕ) (f g : RecordFields) → g.past ≡ g.first + blocks_size g.blocks → outlined s g ≡ Some f → f.first + blocks_size f.blocks ≤ length s
inside_by s f g p e =
    let q = whole_by (leb g.past (length s)) f g e in
    let h = leb-true g.past (length s) q.0 in
    rw (← q.1) (omega (arith, p))

pub outline_inside : (s : List ℕ) (at : ℕ) (f : RecordFields) {x : Option RecordFields} → x ≡ outline_of s at → x ≡ Some f → f.first + blocks_size (listed_count f) ≤ length s
unfolding outline_of outline_from
outline_inside s at f e g = omega (arith, inside_by s f _ refl (sym e ∙ g), listed_few (is_current f.flags) f.blocks)

-- as a run
pub listed_marked : (s : List ℕ) (at : ℕ) (f : RecordFields) {x : Option RecordFields} {count : ℕ} → x ≡ outline_of s at → x ≡ Some f → count ≡ listed_count f → Marked s (run_of f.first count) (mark_of 0 0) 0
listed_marked s at f e g k = marked_first 0 (omega (arith, k, outline_inside s at f e g))

rises_by : (s : List ℕ) (at : ℕ) (f g : RecordFields) → at < g.past → outlined s g ≡ Some f → at < f.past
rises_by s at f g p e = rw (← (whole_by (leb g.past (length s)) f g e).1) p

-- and the record ends behind its place
pub outline_rises : (s : List ℕ) (at : ℕ) (f : RecordFields) → outline_of s at ≡ Some f → at < f.past
unfolding outline_of outline_from
outline_rises s at f e = rises_by s at f _ (omega arith) e

-- by the outline that was given, and whether its name is the one

module _ (name t : List ℕ) (at : ℕ) {x : Option RecordFields} (e : x ≡ outline_of t at) where
  pub past_none : x ≡ None → at ≡ past_name name t at
  unfolding past_name
  past_none g = ap (past_by name t at) (sym g ∙ e)

  pub lists_none : (offset : ℕ) (b : Block) → x ≡ None → false ≡ lists_at t at name offset b
  unfolding lists_at
  lists_none offset b g = ap (lists_by t name offset b) (sym g ∙ e)

  module _ {f : RecordFields} {p : List ℕ} {o : Ordering} {r : Bool} (g : x ≡ Some f) (k : p ≡ part t f.name f.stop) (c : o ≡ compare_lists p name) (q : r ≡ is_equal o) where
    name_test : r ≡ is_equal (compare_lists (part t f.name f.stop) name)
    name_test = q ∙ ap is_equal (c ∙ ap (λ (l : List ℕ). compare_lists l name) k)

    pub past_by_lem : {v : Bool} → r ≡ v → cond v f.past at ≡ past_name name t at
    unfolding past_name
    past_by_lem {v} h = ap (λ (y : Bool). cond y f.past at) (sym h ∙ name_test) ∙ ap (past_by name t at) (sym g ∙ e)

    pub lists_by_lem : (offset : ℕ) (b : Block) {v : Bool} → r ≡ v → cond v (has_there 0 (blocks_from t f.first 0 (listed_count f)) offset b) false ≡ lists_at t at name offset b
    unfolding lists_at
    lists_by_lem offset b {v} h =
        ap (λ (y : Bool). cond y (has_there 0 (blocks_from t f.first 0 (listed_count f)) offset b) false) (sym h ∙ name_test)
        ∙ ap (lists_by t name offset b) (sym g ∙ e)
