-- Records put among old ones in place of those of their names leave the same as records put among the old ones that they don't mention.
use mathlib.Core.List.{List, [], ◌∷◌}
use mathlib.Core.Path.{◌≡◌, refl, sym, ap, subst, ◌∙◌}
use mathlib.Core.Bool.{Bool, true, false, cond}
use Prim.Native.Nat.{ℕ}
use Rattle.record.specs.File.{File}
use Rattle.order.specs.Order.{is_equal, compare_lists}
use Rattle.std.specs.declared.cmp.Ordering.{Ordering}
use Rattle.std.specs.declared.cmp.Ordering.TheVariants.{Less, Equal, Greater}
use Rattle.order.proofs.OrderLaws.{Below, reversed, compare_reversed, equal_same}
use Rattle.record.proofs.RisingLaws.{Above, Rising}
use Rattle.table.specs.Insert.{insert}
use Rattle.table.proofs.InsertLaws.{above_below, insert_less, insert_equal, insert_greater, insert_first, insert_rising}
use Rattle.accept.specs.Resulting.{is_named, unmentioned, replacing, by_name, resulting}
use Rattle.accept.specs.Steps.Sorted.{Distinct}
use Rattle.accept.proofs.InsertLaws.{replacing_one, by_name_more}

none_mentioned : (gs : List File) → unmentioned [] gs ≡ gs
none_mentioned [] = refl
none_mentioned (g ∷ gs) = ap (λ (l : List File). g ∷ l) (none_mentioned gs)

rest_above : (n : List ℕ) (g : File) (gs : List File) → Below n g.name → Rising (g ∷ gs) → Above n gs
rest_above n g gs h r = above_below n g.name gs h r.0

pub kept_above : (n : List ℕ) (fs gs : List File) → Above n gs → Rising gs → Above n (unmentioned fs gs)
kept_above n fs [] a r = tt
kept_above n fs (g ∷ gs) a r = go (is_named g.name fs) (kept_above n fs gs (rest_above n g gs a r) r.1)
  where
    go : (b : Bool) → Above n (unmentioned fs gs) → Above n (cond b (unmentioned fs gs) (g ∷ unmentioned fs gs))
    go true ih = ih
    go false ih = a

-- a name above which all are isn't mentioned
beyond : (f : File) (fs gs : List File) → Above f.name gs → Rising gs → unmentioned (f ∷ fs) gs ≡ unmentioned fs gs
beyond f fs [] a r = refl
beyond f fs (g ∷ gs) a r =
    ap (λ (o : Ordering). cond (cond (is_equal o) true (is_named g.name fs)) (unmentioned (f ∷ fs) gs) (g ∷ unmentioned (f ∷ fs) gs)) (compare_reversed f.name g.name ∙ ap reversed a)
    ∙ ap (λ (l : List File). cond (is_named g.name fs) l (g ∷ l)) (beyond f fs gs (rest_above f.name g gs a r) r.1)

module _ (f : File) (fs : List File) (new : is_named f.name fs ≡ false) where
  stays : (gs : List File) → unmentioned fs (f ∷ gs) ≡ f ∷ unmentioned fs gs
  stays gs = rw new refl

  goes_first : (gs : List File) → Above f.name gs → Rising gs → insert replacing f (unmentioned (f ∷ fs) gs) ≡ f ∷ unmentioned fs gs
  goes_first gs a r = ap (insert replacing f) (beyond f fs gs a r) ∙ insert_first replacing f (unmentioned fs gs) (kept_above f.name fs gs a r)

  insert_unmentioned : (gs : List File) → Rising gs → insert replacing f (unmentioned (f ∷ fs) gs) ≡ unmentioned fs (insert replacing f gs)
  insert_unmentioned [] r = sym (stays [])
  insert_unmentioned (g ∷ gs) r = go (compare_lists f.name g.name) refl (insert_unmentioned gs r.1)
    where
      other : (b : Bool) → compare_lists f.name g.name ≡ Greater → insert replacing f (unmentioned (f ∷ fs) gs) ≡ unmentioned fs (insert replacing f gs)
          → insert replacing f (cond b (unmentioned (f ∷ fs) gs) (g ∷ unmentioned (f ∷ fs) gs)) ≡ cond b (unmentioned fs (insert replacing f gs)) (g ∷ unmentioned fs (insert replacing f gs))
      other true e ih = ih
      other false e ih = insert_greater replacing f g (unmentioned (f ∷ fs) gs) e ∙ ap (λ (l : List File). g ∷ l) ih

      go : (o : Ordering) → compare_lists f.name g.name ≡ o → insert replacing f (unmentioned (f ∷ fs) gs) ≡ unmentioned fs (insert replacing f gs) → insert replacing f (unmentioned (f ∷ fs) (g ∷ gs)) ≡ unmentioned fs (insert replacing f (g ∷ gs))
      go Less e ih = goes_first (g ∷ gs) e r ∙ sym (stays (g ∷ gs)) ∙ ap (unmentioned fs) (sym (insert_less replacing f g gs e))
      go Equal e ih =
          let same : f.name ≡ g.name = equal_same f.name g.name e in
          ap (λ (o : Ordering). insert replacing f (cond (cond (is_equal o) true (is_named g.name fs)) (unmentioned (f ∷ fs) gs) (g ∷ unmentioned (f ∷ fs) gs))) (compare_reversed f.name g.name ∙ ap reversed e)
          ∙ goes_first gs (subst (λ (n : List ℕ). Above n gs) (sym same) r.0) r.1
          ∙ sym (stays gs)
          ∙ ap (unmentioned fs) (sym (insert_equal replacing f g gs e))
      go Greater e ih =
          ap (λ (o : Ordering). insert replacing f (cond (cond (is_equal o) true (is_named g.name fs)) (unmentioned (f ∷ fs) gs) (g ∷ unmentioned (f ∷ fs) gs))) (compare_reversed f.name g.name ∙ ap reversed e)
          ∙ other (is_named g.name fs) e ih
          ∙ ap (unmentioned fs) (sym (insert_greater replacing f g gs e))

kept_same : (fs gs : List File) → Distinct fs → Rising gs → by_name fs (unmentioned fs gs) ≡ by_name fs gs
kept_same [] gs d r = ap (by_name []) (none_mentioned gs)
kept_same (f ∷ fs) gs d r =
    by_name_more f fs (unmentioned (f ∷ fs) gs)
    ∙ ap (by_name fs) (insert_unmentioned f fs d.0 gs r)
    ∙ kept_same fs (insert replacing f gs) d.1 (insert_rising replacing replacing_one f gs r)
    ∙ sym (by_name_more f fs gs)

-- the records of a message in order, laid over the old ones that may be kept
pub resulting_is : (update : Bool) (fs gs : List File) → Distinct fs → Rising gs → resulting update fs gs ≡ by_name fs (cond update gs [])
unfolding resulting
resulting_is true fs gs d r = kept_same fs gs d r
resulting_is false fs gs d r = refl
