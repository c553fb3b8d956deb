-- Which records the resulting ones are.
use Prim.Native.Nat.{ℕ}
use mathlib.Core.List.Memᴰ
use mathlib.Core.List.{List, [], ◌∷◌, Memᴰ}
use mathlib.Core.Path.{◌≡◌, refl, sym, ap, subst, ◌∙◌}
use mathlib.Core.Logic.{◌⊎◌, inl, inr, ⊎_elim}
use mathlib.Core.Bool.{Bool, true, false, cond}
use Rattle.record.specs.File.{File}
use Rattle.order.specs.Order.{is_equal, compare_lists}
use Rattle.std.specs.declared.cmp.Ordering.{Ordering}
use Rattle.std.specs.declared.cmp.Ordering.TheVariants.{Less, Equal, Greater}
use Rattle.order.proofs.OrderLaws.{same_equal, equal_same}
use Rattle.order.proofs.SameLaws.{is_same_lem}
use Rattle.table.specs.Insert.{placed, insert}
use Rattle.table.proofs.InsertLaws.{insert_from}
use Rattle.accept.specs.Resulting.{is_named, unmentioned, replacing, by_name, resulting}
use Rattle.accept.specs.Steps.Sorted.{Distinct}
use Rattle.accept.proofs.InsertLaws.{replacing_one}
use Rattle.promises.specs.Accepting.{NoneNamed, Belongs}
use Rattle.promises.proofs.HeldLaws.{differ}

-- whether a name is that of one of some records

named_test : (n : List ℕ) (f : File) → f.name ≡ n → is_equal (compare_lists n f.name) ≡ true
named_test n f e = ap (λ (m : List ℕ). is_equal (compare_lists n m)) e ∙ ap is_equal (same_equal n)

pub none_named : (n : List ℕ) (fs : List File) → is_named n fs ≡ false → NoneNamed n fs
none_named n [] e g m p = Memᴰ.not-nil m
none_named n (f ∷ fs) e g m p = go (is_equal (compare_lists n f.name)) refl e (λ q k. none_named n fs q g k p)
  where
    go : (b : Bool) → is_equal (compare_lists n f.name) ≡ b → cond b true (is_named n fs) ≡ false → (is_named n fs ≡ false → Memᴰ g fs → ⊥) → ⊥
    go true q e ih = differ e
    go false q e ih = ⊎_elim (λ k. differ (sym (named_test n f (ap (λ (x : File). x.name) (sym k) ∙ p)) ∙ q)) (ih e) (Memᴰ.cases_cons m)

pub named_none : (n : List ℕ) (fs : List File) → NoneNamed n fs → is_named n fs ≡ false
named_none n [] h = refl
named_none n (f ∷ fs) h = go (is_equal (compare_lists n f.name)) refl (named_none n fs (λ g m. h g (Memᴰ.tail m)))
  where
    go : (b : Bool) → is_equal (compare_lists n f.name) ≡ b → is_named n fs ≡ false → cond b true (is_named n fs) ≡ false
    go true q ih = absurd (h f (Memᴰ.head refl) (sym (is_same_lem n f.name q)))
    go false q ih = ih

-- a record put among others

module _ (f : File) where
  insert_new : (l : List File) → Memᴰ f (insert replacing f l)
  insert_new [] = Memᴰ.head refl
  insert_new (g ∷ l) = go (compare_lists f.name g.name) (insert_new l)
    where
      go : (o : Ordering) → Memᴰ f (insert replacing f l) → Memᴰ f (placed replacing o f g l (insert replacing f l))
      go Less ih = Memᴰ.head refl
      go Equal ih = Memᴰ.head refl
      go Greater ih = Memᴰ.tail ih

  insert_keeps : (l : List File) (x : File) → (f.name ≡ x.name → ⊥) → Memᴰ x l → Memᴰ x (insert replacing f l)
  insert_keeps [] x h m = absurd (Memᴰ.not-nil m)
  insert_keeps (g ∷ l) x h m = go (compare_lists f.name g.name) refl (Memᴰ.cases_cons m) (insert_keeps l x h)
    where
      go : (o : Ordering) → compare_lists f.name g.name ≡ o → (x ≡ g) ⊎ Memᴰ x l → (Memᴰ x l → Memᴰ x (insert replacing f l)) → Memᴰ x (placed replacing o f g l (insert replacing f l))
      go Less e k ih = Memᴰ.tail m
      go Equal e (inl k) ih = absurd (h (equal_same f.name g.name e ∙ ap (λ (y : File). y.name) (sym k)))
      go Equal e (inr k) ih = Memᴰ.tail k
      go Greater e (inl k) ih = Memᴰ.head k
      go Greater e (inr k) ih = Memᴰ.tail (ih k)

-- records put among others, one after another

by_name_only : (fs l : List File) (x : File) → Memᴰ x (by_name fs l) → Memᴰ x fs ⊎ Memᴰ x l
unfolding by_name
by_name_only [] l x m = inr m
by_name_only (f ∷ fs) l x m =
    ⊎_elim (λ k. inl (Memᴰ.tail k)) (λ k. ⊎_elim (λ e. inl (Memᴰ.head e)) inr (insert_from replacing replacing_one f l x k)) (by_name_only fs (insert replacing f l) x m)

by_name_keeps : (fs l : List File) (x : File) → NoneNamed x.name fs → Memᴰ x l → Memᴰ x (by_name fs l)
unfolding by_name
by_name_keeps [] l x h m = m
by_name_keeps (f ∷ fs) l x h m = by_name_keeps fs (insert replacing f l) x (λ g k. h g (Memᴰ.tail k)) (insert_keeps f l x (h f (Memᴰ.head refl)) m)

by_name_sent : (fs l : List File) (x : File) → Distinct fs → Memᴰ x fs → Memᴰ x (by_name fs l)
unfolding by_name
by_name_sent [] l x d m = absurd (Memᴰ.not-nil m)
by_name_sent (f ∷ fs) l x d m =
    ⊎_elim (λ e. subst (λ (y : File). Memᴰ y (by_name fs (insert replacing f l))) (sym e) (by_name_keeps fs (insert replacing f l) f (none_named f.name fs d.0) (insert_new f l)))
    (λ k. by_name_sent fs (insert replacing f l) x d.1 k) (Memᴰ.cases_cons m)

-- the old records that are not mentioned

kept_only : (sent old : List File) (x : File) → Memᴰ x (unmentioned sent old) → Memᴰ x old × NoneNamed x.name sent
kept_only sent [] x m = absurd (Memᴰ.not-nil m)
kept_only sent (g ∷ gs) x m = go (is_named g.name sent) refl m (kept_only sent gs x)
  where
    go : (b : Bool) → is_named g.name sent ≡ b → Memᴰ x (cond b (unmentioned sent gs) (g ∷ unmentioned sent gs)) → (Memᴰ x (unmentioned sent gs) → Memᴰ x gs × NoneNamed x.name sent)
        → Memᴰ x (g ∷ gs) × NoneNamed x.name sent
    go true e m ih = let q = ih m in (Memᴰ.tail q.0, q.1)
    go false e m ih =
        ⊎_elim (λ k. (Memᴰ.head k, subst (λ (y : File). NoneNamed y.name sent) (sym k) (none_named g.name sent e)))
        (λ k. let q = ih k in (Memᴰ.tail q.0, q.1)) (Memᴰ.cases_cons m)

kept_all : (sent old : List File) (x : File) → Memᴰ x old → NoneNamed x.name sent → Memᴰ x (unmentioned sent old)
kept_all sent [] x m h = absurd (Memᴰ.not-nil m)
kept_all sent (g ∷ gs) x m h = go (is_named g.name sent) refl (Memᴰ.cases_cons m) (λ k. kept_all sent gs x k h)
  where
    go : (b : Bool) → is_named g.name sent ≡ b → (x ≡ g) ⊎ Memᴰ x gs → (Memᴰ x gs → Memᴰ x (unmentioned sent gs)) → Memᴰ x (cond b (unmentioned sent gs) (g ∷ unmentioned sent gs))
    go true e (inl k) ih = absurd (differ (sym e ∙ ap (λ (y : File). is_named y.name sent) (sym k) ∙ named_none x.name sent h))
    go true e (inr k) ih = ih k
    go false e (inl k) ih = Memᴰ.head k
    go false e (inr k) ih = Memᴰ.tail (ih k)

-- the resulting records are those that belong

pub resulting_only : (update : Bool) (sent old : List File) (f : File) → Memᴰ f (resulting update sent old) → Belongs update sent old f
unfolding resulting
resulting_only true sent old f m = ⊎_elim inl (λ k. let q = kept_only sent old f k in inr (refl, q.0, q.1)) (by_name_only sent (unmentioned sent old) f m)
resulting_only false sent old f m = ⊎_elim inl (λ k. absurd (Memᴰ.not-nil k)) (by_name_only sent [] f m)

pub resulting_all : (update : Bool) (sent old : List File) (f : File) → Distinct sent → Belongs update sent old f → Memᴰ f (resulting update sent old)
unfolding resulting
resulting_all update sent old f d (inl m) = by_name_sent sent (cond update (unmentioned sent old) []) f d m
resulting_all true sent old f d (inr k) = by_name_keeps sent (unmentioned sent old) f k.2 (kept_all sent old f k.1 k.2)
resulting_all false sent old f d (inr k) = absurd (differ (sym k.0))
