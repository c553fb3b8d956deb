-- The record of a name among merged records is the higher of those that the tables have.
use Prim.Native.Nat.{ℕ}
use mathlib.Core.List.{List, [], ◌∷◌}
use mathlib.Core.Path.{◌≡◌, refl, sym, ap, subst, ◌∙◌}
use mathlib.Core.Bool.{Bool, true, false, cond}
use Rattle.order.specs.Order.{is_equal, compare_lists}
use Rattle.std.specs.declared.cmp.Ordering.{Ordering}
use Rattle.std.specs.declared.cmp.Ordering.TheVariants.{Less, Equal, Greater}
use Rattle.order.proofs.OrderLaws.{Below, equal_same, below_irrefl, greater_above}
use Rattle.record.specs.File.{File}
use Rattle.record.proofs.RisingLaws.{Above, Rising}
use Rattle.table.specs.Insert.{placed, insert}
use Rattle.table.proofs.InsertLaws.{above_below, stays_name, insert_rising}
use Rattle.merge.specs.Merged.{higher, insert_all, merged_of}
use Rattle.merge.proofs.TwoLaws.{higher_one}
use Rattle.merge.proofs.MergeLaws.{merged_rising}
use Rattle.reason.specs.Steps.{lookup, higher_in}

-- two names that are told apart, and that are not

other_name : (a b : List ℕ) → Below a b → is_equal (compare_lists b a) ≡ false
other_name a b h = go (compare_lists b a) refl
  where
    go : (o : Ordering) → compare_lists b a ≡ o → is_equal o ≡ false
    go Less e = refl
    go Equal e = absurd (below_irrefl a (subst (λ (x : List ℕ). Below a x) (equal_same b a e) h))
    go Greater e = refl

same_name : (a b : List ℕ) → is_equal (compare_lists a b) ≡ true → a ≡ b
same_name a b h = go (compare_lists a b) refl h
  where
    go : (o : Ordering) → compare_lists a b ≡ o → is_equal o ≡ true → a ≡ b
    go Less e k = cc
    go Equal e k = equal_same a b e
    go Greater e k = cc

-- the first record has the name, or it is looked for among the others

here : (n : List ℕ) (f : File) (l : List File) → is_equal (compare_lists f.name n) ≡ true → lookup n (f ∷ l) ≡ f ∷ []
here n f l e = ap (λ (b : Bool). cond b (f ∷ []) (lookup n l)) e

further : (n : List ℕ) (f : File) (l : List File) → is_equal (compare_lists f.name n) ≡ false → lookup n (f ∷ l) ≡ lookup n l
further n f l e = ap (λ (b : Bool). cond b (f ∷ []) (lookup n l)) e

-- no record above a name has it
none_above : (n : List ℕ) (l : List File) → Above n l → Rising l → lookup n l ≡ []
none_above n [] a r = refl
none_above n (g ∷ l) a r = further n g l (other_name n g.name a) ∙ none_above n l (above_below n g.name l a r.0) r.1

above_name : (m n : List ℕ) (l : List File) → m ≡ n → Above m l → Above n l
above_name m n l e a = subst (λ (x : List ℕ). Above x l) e a

-- a record that is put among others: where it has the name, the higher of the two; else nothing changes
module _ (n : List ℕ) (f : File) where
  insert_named : (l : List File) → Rising l → is_equal (compare_lists f.name n) ≡ true → lookup n (insert higher f l) ≡ higher_in (f ∷ []) (lookup n l)
  insert_named [] r e = here n f [] e
  insert_named (g ∷ l) r e = go (compare_lists f.name g.name) refl (insert_named l r.1 e)
    where
      m : f.name ≡ n
      m = same_name f.name n e

      go : (o : Ordering) → compare_lists f.name g.name ≡ o → lookup n (insert higher f l) ≡ higher_in (f ∷ []) (lookup n l)
          → lookup n (placed higher o f g l (insert higher f l)) ≡ higher_in (f ∷ []) (lookup n (g ∷ l))
      go Less q ih = here n f (g ∷ l) e ∙ ap (higher_in (f ∷ [])) (sym (none_above n (g ∷ l) (above_name f.name n (g ∷ l) m q) r))
      go Equal q ih =
          let k : f.name ≡ g.name = equal_same f.name g.name q in
          let has : is_equal (compare_lists g.name n) ≡ true = ap (λ (x : List ℕ). is_equal (compare_lists x n)) (sym k) ∙ e in
          let stays : is_equal (compare_lists (higher f g).name n) ≡ true = ap (λ (x : List ℕ). is_equal (compare_lists x n)) (stays_name higher higher_one f g k) ∙ e in
          here n (higher f g) l stays ∙ ap (higher_in (f ∷ [])) (sym (here n g l has))
      go Greater q ih = by (is_equal (compare_lists g.name n)) refl
        where
          by : (b : Bool) → is_equal (compare_lists g.name n) ≡ b → lookup n (g ∷ insert higher f l) ≡ higher_in (f ∷ []) (lookup n (g ∷ l))
          by true k =
              let same : f.name ≡ g.name = m ∙ sym (same_name g.name n k) in
              absurd (below_irrefl g.name (subst (λ (x : List ℕ). Below g.name x) same (greater_above f.name g.name q)))
          by false k = further n g (insert higher f l) k ∙ ih ∙ ap (higher_in (f ∷ [])) (sym (further n g l k))

  insert_other : (l : List File) → is_equal (compare_lists f.name n) ≡ false → lookup n (insert higher f l) ≡ lookup n l
  insert_other [] e = further n f [] e
  insert_other (g ∷ l) e = go (compare_lists f.name g.name) refl (insert_other l e)
    where
      go : (o : Ordering) → compare_lists f.name g.name ≡ o → lookup n (insert higher f l) ≡ lookup n l → lookup n (placed higher o f g l (insert higher f l)) ≡ lookup n (g ∷ l)
      go Less q ih = further n f (g ∷ l) e
      go Equal q ih =
          let k : f.name ≡ g.name = equal_same f.name g.name q in
          let not : is_equal (compare_lists (higher f g).name n) ≡ false = ap (λ (x : List ℕ). is_equal (compare_lists x n)) (stays_name higher higher_one f g k) ∙ e in
          further n (higher f g) l not ∙ sym (further n g l (ap (λ (x : List ℕ). is_equal (compare_lists x n)) (sym k) ∙ e))
      go Greater q ih = by (is_equal (compare_lists g.name n)) refl
        where
          by : (b : Bool) → is_equal (compare_lists g.name n) ≡ b → lookup n (g ∷ insert higher f l) ≡ lookup n (g ∷ l)
          by true k = here n g (insert higher f l) k ∙ sym (here n g l k)
          by false k = further n g (insert higher f l) k ∙ ih ∙ sym (further n g l k)

-- all records of a table
insert_all_rising : (t l : List File) → Rising l → Rising (insert_all t l)
insert_all_rising [] l r = r
insert_all_rising (f ∷ t) l r = insert_rising higher higher_one f (insert_all t l) (insert_all_rising t l r)

all_named : (n : List ℕ) (t l : List File) → Rising t → Rising l → lookup n (insert_all t l) ≡ higher_in (lookup n t) (lookup n l)
all_named n [] l s r = refl
all_named n (f ∷ t) l s r = go (is_equal (compare_lists f.name n)) refl (all_named n t l s.1 r)
  where
    go : (b : Bool) → is_equal (compare_lists f.name n) ≡ b → lookup n (insert_all t l) ≡ higher_in (lookup n t) (lookup n l)
        → lookup n (insert higher f (insert_all t l)) ≡ higher_in (lookup n (f ∷ t)) (lookup n l)
    go true e ih =
        let none : lookup n t ≡ [] = none_above n t (above_name f.name n t (same_name f.name n e) s.0) s.1 in
        insert_named n f (insert_all t l) (insert_all_rising t l r) e
        ∙ ap (higher_in (f ∷ [])) (ih ∙ ap (λ (x : List File). higher_in x (lookup n l)) none)
        ∙ ap (λ (x : List File). higher_in x (lookup n l)) (sym (here n f t e))
    go false e ih =
        insert_other n f (insert_all t l) e ∙ ih
        ∙ ap (λ (x : List File). higher_in x (lookup n l)) (sym (further n f t e))

-- the record of a name among those of one table and the merged ones of others
pub merged_named : (n : List ℕ) (t : List File) (ts : List (List File)) → Rising t → lookup n (merged_of (t ∷ ts)) ≡ higher_in (lookup n t) (lookup n (merged_of ts))
unfolding merged_of
merged_named n t ts s = all_named n t (merged_of ts) s (merged_rising ts)

-- a record that was found by a name has it
pub lookup_name : (n : List ℕ) (l : List File) {g : File} → lookup n l ≡ g ∷ [] → g.name ≡ n
lookup_name n [] e = cc
lookup_name n (f ∷ l) {g} e = go (is_equal (compare_lists f.name n)) refl e (λ q. lookup_name n l q)
  where
    go : (b : Bool) → is_equal (compare_lists f.name n) ≡ b → cond b (f ∷ []) (lookup n l) ≡ g ∷ [] → (lookup n l ≡ g ∷ [] → g.name ≡ n) → g.name ≡ n
    go true k q ih = let same : f ≡ g = cc in ap (λ (x : File). x.name) (sym same) ∙ same_name f.name n k
    go false k q ih = ih q
