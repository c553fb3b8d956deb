-- What is left where the side of the next record is told.
use Rattle.std.specs.Prelude.{Some, None}
use Rattle.std.specs.declared.option.Option.{Option}
use Prim.Native.Nat.{ℕ}
use mathlib.Core.List.{List, [], ◌∷◌}
use mathlib.Core.Path.{◌≡◌, sym, ap, subst, ◌∙◌}
use Rattle.record.specs.File.{File}
use Rattle.record.specs.Outline.{outline_of, fields_of}
use Rattle.record.specs.declared.outline.RecordFields.{RecordFields}
use Rattle.order.specs.Order.{compare_lists, part}
use Rattle.std.specs.declared.cmp.Ordering.{Ordering}
use Rattle.std.specs.declared.cmp.Ordering.TheVariants.{Less, Equal, Greater}
use Rattle.order.proofs.OrderLaws.{greater_above}
use Rattle.record.proofs.RisingLaws.{Above}
use Rattle.table.specs.Steps.Standing.{At}
use Rattle.table.specs.Steps.Side.{side_by, side_of}
use Rattle.table.specs.declared.side.Side.{Side}
use Rattle.table.specs.declared.side.Side.TheVariants.{Left, Right, Both}
use Rattle.table.proofs.WalkLaws.{at_end, standing}

-- the outline at a place shows the first of the records that are left
pub data Shows (t : List ℕ) (at : ℕ) : List File → Option RecordFields → Type 0 where
  shows_none : Shows t at [] None
  shows_first : (f : File) (fs : List File) → part t (fields_of at f).name (fields_of at f).stop ≡ f.name → Shows t at (f ∷ fs) (Some (fields_of at f))

pub shows_at : {t : List ℕ} {at : ℕ} (fs : List File) → At t at fs → Shows t at fs (outline_of t at)
shows_at {t} {at} [] w = subst (Shows t at []) (sym (at_end w)) shows_none
shows_at {t} {at} (f ∷ fs) w = subst (Shows t at (f ∷ fs)) (sym (standing w).outline_is) (shows_first f fs (standing w).name_is)

-- of fs and gs, which are left at i and j, a side comes next
pub data Told (i j : ℕ) : List File → List File → Option Side → Type 0 where
  told_none : Told i j [] [] None
  told_left : (f : File) (fs gs : List File) → Above f.name gs → Told i j (f ∷ fs) gs (Some (Left (fields_of i f).past))
  told_right : (g : File) (fs gs : List File) → Above g.name fs → Told i j fs (g ∷ gs) (Some (Right (fields_of j g).past))
  told_both : (f g : File) (fs gs : List File) → compare_lists f.name g.name ≡ Equal → Told i j (f ∷ fs) (g ∷ gs) (Some (Both (fields_of i f) (fields_of j g)))

module _ {i j : ℕ} where
  told_two : (f g : File) (fs gs : List File) (o : Ordering) → compare_lists f.name g.name ≡ o → Told i j (f ∷ fs) (g ∷ gs) (Some (side_by o (fields_of i f) (fields_of j g)))
  told_two f g fs gs Less e = told_left f fs (g ∷ gs) e
  told_two f g fs gs Equal e = told_both f g fs gs e
  told_two f g fs gs Greater e = told_right g (f ∷ fs) gs (greater_above f.name g.name e)

  pub told : {a b : List ℕ} {fs gs : List File} {x y : Option RecordFields} → Shows a i fs x → Shows b j gs y → Told i j fs gs (side_of a x b y)
  told shows_none shows_none = told_none
  told shows_none (shows_first g gs e) = told_right g [] gs tt
  told (shows_first f fs e) shows_none = told_left f fs [] tt
  told {a} {b} (shows_first f fs e) (shows_first g gs h) =
      told_two f g fs gs (compare_lists (part a (fields_of i f).name (fields_of i f).stop) (part b (fields_of j g).name (fields_of j g).stop))
      (sym (ap (λ (l : List ℕ). compare_lists l (part b (fields_of j g).name (fields_of j g).stop)) e ∙ ap (compare_lists f.name) h))
