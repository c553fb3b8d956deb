-- Two tables record by record, of one name the higher, are their merged table.
use mathlib.Core.List.{List, [], ◌∷◌}
use mathlib.Core.Path.{◌≡◌, refl, sym, ap, ◌∙◌}
use mathlib.Core.Logic.{◌⊎◌, inl, inr}
use Rattle.record.specs.File.{File}
use Rattle.record.proofs.RisingLaws.{Rising}
use Rattle.table.specs.Newest.{compare_files}
use Rattle.table.specs.Insert.{insert}
use Rattle.table.proofs.InsertLaws.{insert_first}
use Rattle.table.proofs.UnionLaws.{union, union_right, insert_union}
use Rattle.std.specs.declared.cmp.Ordering.{Ordering}
use Rattle.std.specs.declared.cmp.Ordering.TheVariants.{Less, Equal, Greater}
use Rattle.merge.specs.Merged.{higher_by, higher, insert_all, merged_of}

pub higher_one : (f g : File) → (higher f g ≡ f) ⊎ (higher f g ≡ g)
higher_one f g = go (compare_files f g)
  where
    go : (o : Ordering) → (higher_by o f g ≡ f) ⊎ (higher_by o f g ≡ g)
    go Less = inr refl
    go Equal = inl refl
    go Greater = inl refl

insert_all_lem : (fs gs : List File) → Rising fs → insert_all fs gs ≡ union higher fs gs
insert_all_lem [] gs r = sym (union_right higher gs)
insert_all_lem (f ∷ fs) gs r = ap (insert higher f) (insert_all_lem fs gs r.1) ∙ insert_union higher higher_one f fs gs r.0

pub insert_none : (gs : List File) → Rising gs → insert_all gs [] ≡ gs
insert_none [] r = refl
insert_none (g ∷ gs) r = ap (insert higher g) (insert_none gs r.1) ∙ insert_first higher g gs r.0

pub merged_two : (fs gs : List File) → Rising fs → Rising gs → union higher fs gs ≡ merged_of (fs ∷ gs ∷ [])
unfolding merged_of
merged_two fs gs r q = sym (ap (insert_all fs) (insert_none gs q) ∙ insert_all_lem fs gs r)
