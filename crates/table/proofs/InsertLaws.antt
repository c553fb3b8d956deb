-- A record among others by name: where it goes, and which records there then are.
use Prim.Native.Nat.{ℕ}
use mathlib.Core.List.Memᴰ
use mathlib.Core.List.{List, [], ◌∷◌, Memᴰ}
use mathlib.Core.Path.{◌≡◌, refl, sym, ap, subst, ◌∙◌}
use mathlib.Core.Logic.{◌⊎◌, inl, inr, ⊎_elim}
use Rattle.record.specs.File.{File}
use Rattle.order.specs.Order.{compare_lists}
use Rattle.std.specs.declared.cmp.Ordering.{Ordering}
use Rattle.std.specs.declared.cmp.Ordering.TheVariants.{Less, Equal, Greater}
use Rattle.order.proofs.OrderLaws.{Below, below_trans, greater_above, equal_same}
use Rattle.record.proofs.RisingLaws.{Above, Rising}
use Rattle.table.specs.Insert.{placed, insert}

pub above_below : (m n : List ℕ) (l : List File) → Below m n → Above n l → Above m l
above_below m n [] h a = tt
above_below m n (f ∷ l) h a = below_trans m n f.name h a

module _ (stays : File → File → File) where
  -- where it goes

  pub insert_less : (f g : File) (l : List File) → compare_lists f.name g.name ≡ Less → insert stays f (g ∷ l) ≡ f ∷ g ∷ l
  insert_less f g l e = rw e refl

  pub insert_equal : (f g : File) (l : List File) → compare_lists f.name g.name ≡ Equal → insert stays f (g ∷ l) ≡ stays f g ∷ l
  insert_equal f g l e = rw e refl

  pub insert_greater : (f g : File) (l : List File) → compare_lists f.name g.name ≡ Greater → insert stays f (g ∷ l) ≡ g ∷ insert stays f l
  insert_greater f g l e = rw e refl

  pub insert_first : (f : File) (l : List File) → Above f.name l → insert stays f l ≡ f ∷ l
  insert_first f [] a = refl
  insert_first f (g ∷ l) a = insert_less f g l a

  -- of two records of one name one stays
  module _ (one : (f g : File) → (stays f g ≡ f) ⊎ (stays f g ≡ g)) where
    pub stays_name : (f g : File) → f.name ≡ g.name → (stays f g).name ≡ f.name
    stays_name f g e = ⊎_elim (λ p. ap (λ (x : File). x.name) p) (λ p. ap (λ (x : File). x.name) p ∙ sym e) (one f g)

    -- names still rise

    insert_above : (n : List ℕ) (f : File) (l : List File) → Below n f.name → Above n l → Above n (insert stays f l)
    insert_above n f [] h a = h
    insert_above n f (g ∷ l) h a = go (compare_lists f.name g.name) refl
      where
        go : (o : Ordering) → compare_lists f.name g.name ≡ o → Above n (placed stays o f g l (insert stays f l))
        go Less e = h
        go Equal e = subst (Below n) (sym (stays_name f g (equal_same f.name g.name e))) h
        go Greater e = a

    pub insert_rising : (f : File) (l : List File) → Rising l → Rising (insert stays f l)
    insert_rising f [] r = (tt, tt)
    insert_rising f (g ∷ l) r = go (compare_lists f.name g.name) refl (insert_rising f l r.1)
      where
        go : (o : Ordering) → compare_lists f.name g.name ≡ o → Rising (insert stays f l) → Rising (placed stays o f g l (insert stays f l))
        go Less e ih = (e, r)
        go Equal e ih = let n = equal_same f.name g.name e in (subst (λ (m : List ℕ). Above m l) (sym (stays_name f g n ∙ n)) r.0, r.1)
        go Greater e ih = (insert_above g.name f l (greater_above f.name g.name e) r.0, ih)

    -- it is one of them that was there, or the new one
    pub insert_from : (f : File) (l : List File) (x : File) → Memᴰ x (insert stays f l) → (x ≡ f) ⊎ Memᴰ x l
    insert_from f [] x m = Memᴰ.cases_cons m
    insert_from f (g ∷ l) x m = go (compare_lists f.name g.name) m (insert_from f l x)
      where
        go : (o : Ordering) → Memᴰ x (placed stays o f g l (insert stays f l)) → (Memᴰ x (insert stays f l) → (x ≡ f) ⊎ Memᴰ x l) → (x ≡ f) ⊎ Memᴰ x (g ∷ l)
        go Less m ih = Memᴰ.cases_cons m
        go Equal m ih =
            ⊎_elim (λ e. ⊎_elim (λ p. inl (e ∙ p)) (λ p. inr (Memᴰ.head (e ∙ p))) (one f g)) (λ k. inr (Memᴰ.tail k)) (Memᴰ.cases_cons m)
        go Greater m ih = ⊎_elim (λ k. inr (Memᴰ.head k)) (λ k. ⊎_elim inl (λ j. inr (Memᴰ.tail j)) (ih k)) (Memᴰ.cases_cons m)
