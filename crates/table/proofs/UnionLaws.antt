-- The records of two lists by name, head by head: of one name `stays` tells which.
use Prim.Native.Nat.{ℕ}
use mathlib.Core.List.{List, [], ◌∷◌}
use mathlib.Core.Path.{◌≡◌, refl, sym, ap, subst, ◌∙◌}
use mathlib.Core.Logic.{◌⊎◌}
use Rattle.record.specs.File.{File}
use Rattle.order.specs.Order.{compare_lists}
use Rattle.std.specs.declared.cmp.Ordering.{Ordering}
use Rattle.std.specs.declared.cmp.Ordering.TheVariants.{Less, Equal, Greater}
use Rattle.order.proofs.OrderLaws.{Below, equal_same, above_greater, greater_above}
use Rattle.record.proofs.RisingLaws.{Above}
use Rattle.table.specs.Insert.{placed, insert}
use Rattle.table.proofs.InsertLaws.{above_below, insert_first, stays_name}

-- the heads f and g, by their names: `both`, `left` and `right` are what is left without both, without f and without g
abbrev pub union_by : (stays : File → File → File) → Ordering → (f g : File) → (both left right : List File) → List File
union_by stays Less f g both left right = f ∷ left
union_by stays Equal f g both left right = stays f g ∷ both
union_by stays Greater f g both left right = g ∷ right

abbrev pub union_head : (stays : File → File → File) → File → (List File → List File) → List File → List File
union_head stays f rest [] = f ∷ rest []
union_head stays f rest (g ∷ gs) = union_by stays (compare_lists f.name g.name) f g (rest gs) (rest (g ∷ gs)) (union_head stays f rest gs)

unfoldable pub union : (stays : File → File → File) → List File → List File → List File
union stays [] gs = gs
union stays (f ∷ fs) gs = union_head stays f (union stays fs) gs

module _ (stays : File → File → File) where
  -- which record comes first

  pub union_less : (f g : File) (fs gs : List File) → compare_lists f.name g.name ≡ Less → union stays (f ∷ fs) (g ∷ gs) ≡ f ∷ union stays fs (g ∷ gs)
  unfolding union
  union_less f g fs gs e = rw e refl

  pub union_equal : (f g : File) (fs gs : List File) → compare_lists f.name g.name ≡ Equal → union stays (f ∷ fs) (g ∷ gs) ≡ stays f g ∷ union stays fs gs
  unfolding union
  union_equal f g fs gs e = rw e refl

  pub union_greater : (f g : File) (fs gs : List File) → compare_lists f.name g.name ≡ Greater → union stays (f ∷ fs) (g ∷ gs) ≡ g ∷ union stays (f ∷ fs) gs
  unfolding union
  union_greater f g fs gs e = rw e refl

  pub union_right : (gs : List File) → union stays [] gs ≡ gs
  unfolding union
  union_right gs = refl

  pub union_none : (fs : List File) → union stays fs [] ≡ fs
  unfolding union
  union_none [] = refl
  union_none (f ∷ fs) = ap (λ (l : List File). f ∷ l) (union_none fs)

  -- a record below all of the other list
  pub left_first : (f : File) (fs gs : List File) → Above f.name gs → union stays (f ∷ fs) gs ≡ f ∷ union stays fs gs
  unfolding union
  left_first f fs [] a = refl
  left_first f fs (g ∷ gs) a = union_less f g fs gs a

  pub right_first : (g : File) (fs gs : List File) → Above g.name fs → union stays fs (g ∷ gs) ≡ g ∷ union stays fs gs
  unfolding union
  right_first g [] gs a = refl
  right_first g (f ∷ fs) gs a = union_greater f g fs gs (above_greater g.name f.name a)

  module _ (one : (f g : File) → (stays f g ≡ f) ⊎ (stays f g ≡ g)) where
    pub union_above : (n : List ℕ) (fs gs : List File) → Above n fs → Above n gs → Above n (union stays fs gs)
    unfolding union
    union_above n [] gs a b = b
    union_above n (f ∷ fs) [] a b = a
    union_above n (f ∷ fs) (g ∷ gs) a b = go (compare_lists f.name g.name) refl
      where
        go : (o : Ordering) → compare_lists f.name g.name ≡ o → Above n (union_by stays o f g (union stays fs gs) (union stays fs (g ∷ gs)) (union_head stays f (union stays fs) gs))
        go Less e = a
        go Equal e = subst (Below n) (sym (stays_name stays one f g (equal_same f.name g.name e))) a
        go Greater e = b

    -- one record of the first list more
    pub insert_union : (f : File) (fs gs : List File) → Above f.name fs → insert stays f (union stays fs gs) ≡ union stays (f ∷ fs) gs
    unfolding union
    insert_union f fs [] a = insert_first stays f (union stays fs []) (union_above f.name fs [] a tt)
    insert_union f fs (g ∷ gs) a = go (compare_lists f.name g.name) refl (insert_union f fs gs a)
      where
        go : (o : Ordering) → compare_lists f.name g.name ≡ o → insert stays f (union stays fs gs) ≡ union_head stays f (union stays fs) gs
            → insert stays f (union stays fs (g ∷ gs)) ≡ union_by stays o f g (union stays fs gs) (union stays fs (g ∷ gs)) (union_head stays f (union stays fs) gs)
        go Less e ih = insert_first stays f (union stays fs (g ∷ gs)) (union_above f.name fs (g ∷ gs) a e)
        go Equal e ih =
            let same : f.name ≡ g.name = equal_same f.name g.name e in
            ap (insert stays f) (right_first g fs gs (rw (← same) a)) ∙ ap (λ (o : Ordering). placed stays o f g (union stays fs gs) (insert stays f (union stays fs gs))) e
        go Greater e ih =
            ap (insert stays f) (right_first g fs gs (above_below g.name f.name fs (greater_above f.name g.name e) a))
            ∙ ap (λ (o : Ordering). placed stays o f g (union stays fs gs) (insert stays f (union stays fs gs))) e
            ∙ ap (λ (l : List File). g ∷ l) ih
