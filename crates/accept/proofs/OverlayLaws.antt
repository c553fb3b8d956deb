-- Records in order laid over others in order, name by name: of one name the upper one stays.
use mathlib.Core.List.{List, [], ◌∷◌}
use mathlib.Core.Path.{◌≡◌, refl, sym, ap, subst, ◌∙◌}
use Prim.Native.Nat.{ℕ}
use Rattle.record.specs.File.{File}
use Rattle.order.specs.Order.{compare_lists}
use Rattle.std.specs.declared.cmp.Ordering.{Ordering}
use Rattle.std.specs.declared.cmp.Ordering.TheVariants.{Less, Equal, Greater}
use Rattle.order.proofs.OrderLaws.{Below, equal_same, greater_above, above_greater, below_trans}
use Rattle.table.specs.Insert.{insert}
use Rattle.table.proofs.InsertLaws.{insert_less, insert_equal, insert_greater, insert_first}
use Rattle.table.proofs.UnionLaws.{union, union_less, union_equal, union_greater, union_right, union_none, union_above}
use Rattle.accept.specs.Resulting.{replacing, by_name}
use Rattle.accept.proofs.InsertLaws.{replacing_one, by_name_more, by_name_none}

overlay_one : (f : File) (gs : List File) → union replacing (f ∷ []) gs ≡ insert replacing f gs
unfolding union
overlay_one f [] = refl
overlay_one f (g ∷ gs) = go (compare_lists f.name g.name) refl (overlay_one f gs)
  where
    go : (o : Ordering) → compare_lists f.name g.name ≡ o → union replacing (f ∷ []) gs ≡ insert replacing f gs → union replacing (f ∷ []) (g ∷ gs) ≡ insert replacing f (g ∷ gs)
    go Less e ih = union_less replacing f g [] gs e ∙ ap (λ (l : List File). f ∷ l) (union_right replacing (g ∷ gs)) ∙ sym (insert_less replacing f g gs e)
    go Equal e ih = union_equal replacing f g [] gs e ∙ ap (λ (l : List File). f ∷ l) (union_right replacing gs) ∙ sym (insert_equal replacing f g gs e)
    go Greater e ih = union_greater replacing f g [] gs e ∙ ap (λ (l : List File). g ∷ l) ih ∙ sym (insert_greater replacing f g gs e)

-- one record more of the upper ones
module _ (f x : File) (l : List File) (ih : (gs : List File) → union replacing (insert replacing f l) gs ≡ insert replacing f (union replacing l gs)) where
  module _ (g : File) (gs : List File) (before : union replacing (insert replacing f (x ∷ l)) gs ≡ insert replacing f (union replacing (x ∷ l) gs)) where
    -- an old record that is below both comes first
    old_first : (m : List File) → insert replacing f (x ∷ l) ≡ m → union replacing m (g ∷ gs) ≡ g ∷ union replacing m gs → compare_lists f.name g.name ≡ Greater → compare_lists x.name g.name ≡ Greater
        → union replacing (insert replacing f (x ∷ l)) (g ∷ gs) ≡ insert replacing f (union replacing (x ∷ l) (g ∷ gs))
    old_first m e k p q =
        ap (λ (u : List File). union replacing u (g ∷ gs)) e
        ∙ k
        ∙ ap (λ (u : List File). g ∷ union replacing u gs) (sym e)
        ∙ ap (λ (u : List File). g ∷ u) before
        ∙ sym (insert_greater replacing f g (union replacing (x ∷ l) gs) p)
        ∙ ap (insert replacing f) (sym (union_greater replacing x g l gs q))

    laid_less : compare_lists f.name x.name ≡ Less → (o : Ordering) → compare_lists f.name g.name ≡ o → union replacing (insert replacing f (x ∷ l)) (g ∷ gs) ≡ insert replacing f (union replacing (x ∷ l) (g ∷ gs))
    laid_less e Less k =
        ap (λ (u : List File). union replacing u (g ∷ gs)) (insert_less replacing f x l e)
        ∙ union_less replacing f g (x ∷ l) gs k
        ∙ sym (insert_first replacing f (union replacing (x ∷ l) (g ∷ gs)) (union_above replacing replacing_one f.name (x ∷ l) (g ∷ gs) e k))
    laid_less e Equal k =
        let above : compare_lists x.name g.name ≡ Greater = above_greater g.name x.name (subst (λ (n : List ℕ). Below n x.name) (equal_same f.name g.name k) e) in
        ap (λ (u : List File). union replacing u (g ∷ gs)) (insert_less replacing f x l e)
        ∙ union_equal replacing f g (x ∷ l) gs k
        ∙ sym (insert_equal replacing f g (union replacing (x ∷ l) gs) k)
        ∙ ap (insert replacing f) (sym (union_greater replacing x g l gs above))
    laid_less e Greater k =
        let above : compare_lists x.name g.name ≡ Greater = above_greater g.name x.name (below_trans g.name f.name x.name (greater_above f.name g.name k) e) in
        old_first (f ∷ x ∷ l) (insert_less replacing f x l e) (union_greater replacing f g (x ∷ l) gs k) k above

    laid_equal : compare_lists f.name x.name ≡ Equal → (o : Ordering) → compare_lists f.name g.name ≡ o → compare_lists x.name g.name ≡ o
        → union replacing (insert replacing f (x ∷ l)) (g ∷ gs) ≡ insert replacing f (union replacing (x ∷ l) (g ∷ gs))
    laid_equal e Less k q =
        ap (λ (u : List File). union replacing u (g ∷ gs)) (insert_equal replacing f x l e)
        ∙ union_less replacing f g l gs k
        ∙ sym (insert_equal replacing f x (union replacing l (g ∷ gs)) e)
        ∙ ap (insert replacing f) (sym (union_less replacing x g l gs q))
    laid_equal e Equal k q =
        ap (λ (u : List File). union replacing u (g ∷ gs)) (insert_equal replacing f x l e)
        ∙ union_equal replacing f g l gs k
        ∙ sym (insert_equal replacing f x (union replacing l gs) e)
        ∙ ap (insert replacing f) (sym (union_equal replacing x g l gs q))
    laid_equal e Greater k q = old_first (f ∷ l) (insert_equal replacing f x l e) (union_greater replacing f g l gs k) k q

    laid_greater : compare_lists f.name x.name ≡ Greater → (o : Ordering) → compare_lists x.name g.name ≡ o → union replacing (insert replacing f (x ∷ l)) (g ∷ gs) ≡ insert replacing f (union replacing (x ∷ l) (g ∷ gs))
    laid_greater e Less k =
        ap (λ (u : List File). union replacing u (g ∷ gs)) (insert_greater replacing f x l e)
        ∙ union_less replacing x g (insert replacing f l) gs k
        ∙ ap (λ (u : List File). x ∷ u) (ih (g ∷ gs))
        ∙ sym (insert_greater replacing f x (union replacing l (g ∷ gs)) e)
        ∙ ap (insert replacing f) (sym (union_less replacing x g l gs k))
    laid_greater e Equal k =
        ap (λ (u : List File). union replacing u (g ∷ gs)) (insert_greater replacing f x l e)
        ∙ union_equal replacing x g (insert replacing f l) gs k
        ∙ ap (λ (u : List File). x ∷ u) (ih gs)
        ∙ sym (insert_greater replacing f x (union replacing l gs) e)
        ∙ ap (insert replacing f) (sym (union_equal replacing x g l gs k))
    laid_greater e Greater k =
        let above : compare_lists f.name g.name ≡ Greater =
        above_greater g.name f.name (below_trans g.name x.name f.name (greater_above x.name g.name k) (greater_above f.name x.name e)) in
        old_first (x ∷ insert replacing f l) (insert_greater replacing f x l e) (union_greater replacing x g (insert replacing f l) gs k) above k

    laid : (o : Ordering) → compare_lists f.name x.name ≡ o → union replacing (insert replacing f (x ∷ l)) (g ∷ gs) ≡ insert replacing f (union replacing (x ∷ l) (g ∷ gs))
    laid Less e = laid_less e (compare_lists f.name g.name) refl
    laid Equal e = laid_equal e (compare_lists f.name g.name) refl (ap (λ (n : List ℕ). compare_lists n g.name) (sym (equal_same f.name x.name e)))
    laid Greater e = laid_greater e (compare_lists x.name g.name) refl

  overlay_step : (gs : List File) → union replacing (insert replacing f (x ∷ l)) gs ≡ insert replacing f (union replacing (x ∷ l) gs)
  overlay_step [] = union_none replacing (insert replacing f (x ∷ l)) ∙ ap (insert replacing f) (sym (union_none replacing (x ∷ l)))
  overlay_step (g ∷ gs) = laid g gs (overlay_step gs) (compare_lists f.name x.name) refl

pub overlay_insert : (f : File) (l gs : List File) → union replacing (insert replacing f l) gs ≡ insert replacing f (union replacing l gs)
overlay_insert f [] gs = overlay_one f gs ∙ ap (insert replacing f) (sym (union_right replacing gs))
overlay_insert f (x ∷ l) gs = overlay_step f x l (λ k. overlay_insert f l k) gs

overlay_by_name : (fs l gs : List File) → union replacing (by_name fs l) gs ≡ by_name fs (union replacing l gs)
overlay_by_name [] l gs = ap (λ (u : List File). union replacing u gs) (by_name_none l) ∙ sym (by_name_none (union replacing l gs))
overlay_by_name (f ∷ fs) l gs =
    ap (λ (u : List File). union replacing u gs) (by_name_more f fs l)
    ∙ overlay_by_name fs (insert replacing f l) gs
    ∙ ap (by_name fs) (overlay_insert f l gs)
    ∙ sym (by_name_more f fs (union replacing l gs))

-- records put in order first and then laid over others are put among them
pub overlay_sorted : (fs gs : List File) → union replacing (by_name fs []) gs ≡ by_name fs gs
overlay_sorted fs gs = overlay_by_name fs [] gs ∙ ap (by_name fs) (union_right replacing gs)
