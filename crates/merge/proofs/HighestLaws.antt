-- The merged table is the highest record of each name, names rising, and no other list is.
use Prim.Native.Nat.{ℕ}
use mathlib.Core.List.Memᴰ
use mathlib.Core.List.{List, [], ◌∷◌, ◌++◌, Memᴰ}
use mathlib.Core.Path.{◌≡◌, refl, sym, ap, subst, ◌∙◌}
use mathlib.Core.Logic.{◌⊎◌, inl, inr, ⊎_elim}
use native.Mathlib.Omega.{arith}
use Rattle.xdr.specs.Format.{Valid}
use Rattle.record.specs.File.{File, file}
use Rattle.order.specs.Order.{compare_lists}
use Rattle.table.specs.Newest.{compare_files}
use Rattle.std.specs.declared.cmp.Ordering.{Ordering}
use Rattle.std.specs.declared.cmp.Ordering.TheVariants.{Less, Equal, Greater}
use Rattle.order.proofs.OrderLaws.{Below, equal_same, below_trans, below_irrefl, below_asym}
use Rattle.table.proofs.NewestLaws.{at_least_itself, at_least_reversed, at_least_trans, at_least_same}
use Rattle.record.proofs.RisingLaws.{Above, Rising, rising_is, rising_test}
use Rattle.table.specs.Insert.{placed, insert}
use Rattle.table.proofs.InsertLaws.{insert_rising, insert_from}
use Rattle.merge.specs.Merged.{higher_by, higher, insert_all, merged_of}
use Rattle.merge.proofs.TwoLaws.{higher_one}
use Rattle.merge.specs.Highest.{joined, AtLeast, Covered, Highest}

abbrev pub ◌∈◌ : File → List File → Type 0
f ∈ l = Memᴰ f l

infix 40 ◌∈◌
-- names that rise

pub above_all : (n : List ℕ) (l : List File) → Above n l → Rising l → (f : File) → f ∈ l → Below n f.name
above_all n [] a s f m = absurd (Memᴰ.not-nil m)
above_all n (g ∷ gs) a s f m = go (Memᴰ.cases_cons m) (λ k. above_all g.name gs s.0 s.1 f k)
  where
    go : (f ≡ g) ⊎ (f ∈ gs) → (f ∈ gs → Below g.name f.name) → Below n f.name
    go (inl e) ih = rw e a
    go (inr k) ih = below_trans n g.name f.name a (ih k)

-- what covers

pub itself : (l : List File) (f : File) → f ∈ l → Covered l f
itself l f m = record { cover = f; within = m; named = refl; high = at_least_itself f }

later : (g : File) (l : List File) (f : File) → Covered l f → Covered (g ∷ l) f
later g l f t = record { cover = t.cover; within = Memᴰ.tail t.within; named = t.named; high = t.high }

pub through : (l : List File) (f g : File) → g.name ≡ f.name → AtLeast g f → Covered l g → Covered l f
through l f g e h t = record { cover = t.cover; within = t.within; named = t.named ∙ e; high = at_least_trans f g t.cover h t.high }

higher_covers : (f g : File) (gs : List File) → f.name ≡ g.name → (o : Ordering) → compare_files f g ≡ o → Covered (higher_by o f g ∷ gs) f × Covered (higher_by o f g ∷ gs) g
higher_covers f g gs n Less e =
    (record { cover = g; within = Memᴰ.head refl; named = sym n; high = at_least_reversed f g e }, itself (g ∷ gs) g (Memᴰ.head refl))
higher_covers f g gs n Equal e =
    (itself (f ∷ gs) f (Memᴰ.head refl), record { cover = f; within = Memᴰ.head refl; named = n; high = λ h. let z : ◌≡◌ {A = ℕ} 0 1 = cc (sym e ∙ h) in omega arith })
higher_covers f g gs n Greater e =
    (itself (f ∷ gs) f (Memᴰ.head refl), record { cover = f; within = Memᴰ.head refl; named = n; high = λ h. let z : ◌≡◌ {A = ℕ} 0 1 = cc (sym e ∙ h) in omega arith })

insert_covers : (f : File) (l : List File) (y : File) → y ∈ (f ∷ l) → Covered (insert higher f l) y
insert_covers f [] y m = itself (f ∷ []) y m
insert_covers f (g ∷ gs) y m = go (compare_lists f.name g.name) refl (Memᴰ.cases_cons m) (insert_covers f gs y)
  where
    same : (l : List File) (x : File) → y ≡ x → Covered l x → Covered l y
    same l x e t = rw e t

    go : (o : Ordering) → compare_lists f.name g.name ≡ o → (y ≡ f) ⊎ (y ∈ (g ∷ gs)) → (y ∈ (f ∷ gs) → Covered (insert higher f gs) y) → Covered (placed higher o f g gs (insert higher f gs)) y
    go Less n (inl e) ih = itself (f ∷ g ∷ gs) y (Memᴰ.head e)
    go Less n (inr k) ih = itself (f ∷ g ∷ gs) y (Memᴰ.tail k)
    go Equal n (inl e) ih = same (higher_by (compare_files f g) f g ∷ gs) f e (higher_covers f g gs (equal_same f.name g.name n) (compare_files f g) refl).0
    go Equal n (inr k) ih =
        ⊎_elim (λ e. same (higher_by (compare_files f g) f g ∷ gs) g e (higher_covers f g gs (equal_same f.name g.name n) (compare_files f g) refl).1)
        (λ q. itself (higher_by (compare_files f g) f g ∷ gs) y (Memᴰ.tail q)) (Memᴰ.cases_cons k)
    go Greater n (inl e) ih = later g (insert higher f gs) y (ih (Memᴰ.head e))
    go Greater n (inr k) ih =
        ⊎_elim (λ e. itself (g ∷ insert higher f gs) y (Memᴰ.head e)) (λ q. later g (insert higher f gs) y (ih (Memᴰ.tail q))) (Memᴰ.cases_cons k)

-- the merged table is the highest record of each name

one_more_lem : (f : File) (fs l : List File) → Highest fs l → Highest (f ∷ fs) (insert higher f l)
one_more_lem f fs l h =
    record {
      rising = rising_test (insert higher f l) (insert_rising higher higher_one f l (rising_is l h.rising));
      from = λ y m. ⊎_elim (λ e. Memᴰ.head e) (λ k. Memᴰ.tail (h.from y k)) (insert_from higher higher_one f l y m);
      covers = λ y m. ⊎_elim (λ e. insert_covers f l y (Memᴰ.head e)) (λ k. over y (h.covers y k)) (Memᴰ.cases_cons m);
    }
  where
    over : (y : File) → Covered l y → Covered (insert higher f l) y
    over y t = through (insert higher f l) y t.cover t.named t.high (insert_covers f l t.cover (Memᴰ.tail t.within))

all_more : (t fs l : List File) → Highest fs l → Highest (t ++ fs) (insert_all t l)
all_more [] fs l h = h
all_more (f ∷ t) fs l h = one_more_lem f (t ++ fs) (insert_all t l) (all_more t fs l h)

pub merged_highest : (ts : List (List File)) → Highest (joined ts) (merged_of ts)
unfolding merged_of
merged_highest [] = record { rising = refl; from = λ f m. m; covers = λ f m. itself [] f m }
merged_highest (t ∷ ts) = all_more t (joined ts) (merged_of ts) (merged_highest ts)

-- no other list is

tail_in : (f g : File) (fs gs : List File) → f ≡ g → Above f.name fs → Rising fs → ((x : File) → x ∈ (f ∷ fs) → x ∈ (g ∷ gs)) → (x : File) → x ∈ fs → x ∈ gs
tail_in f g fs gs e a s h x m = go (Memᴰ.cases_cons (h x (Memᴰ.tail m)))
  where
    go : (x ≡ g) ⊎ (x ∈ gs) → x ∈ gs
    go (inl k) = absurd (below_irrefl f.name (subst (λ (z : File). Below f.name z.name) (k ∙ sym e) (above_all f.name fs a s x m)))
    go (inr k) = k

-- lists whose names rise are the same where they have the same members
same_members : (a b : List File) → Rising a → Rising b → ((x : File) → x ∈ a → x ∈ b) → ((x : File) → x ∈ b → x ∈ a) → a ≡ b
same_members [] [] s u p q = refl
same_members [] (g ∷ gs) s u p q = absurd (Memᴰ.not-nil (q g (Memᴰ.head refl)))
same_members (f ∷ fs) [] s u p q = absurd (Memᴰ.not-nil (p f (Memᴰ.head refl)))
same_members (f ∷ fs) (g ∷ gs) s u p q =
    let e : f ≡ g = heads (Memᴰ.cases_cons (p f (Memᴰ.head refl))) (Memᴰ.cases_cons (q g (Memᴰ.head refl))) in
    let t : fs ≡ gs = same_members fs gs s.1 u.1 (tail_in f g fs gs e s.0 s.1 p) (tail_in g f gs fs (sym e) u.0 u.1 q) in
    cc
  where
    heads : (f ≡ g) ⊎ (f ∈ gs) → (g ≡ f) ⊎ (g ∈ fs) → f ≡ g
    heads (inl e) k = e
    heads (inr m) (inl e) = sym e
    heads (inr m) (inr n) = absurd (below_asym f.name g.name (above_all f.name fs s.0 s.1 g n) (above_all g.name gs u.0 u.1 f m))

-- of one name there is one record
pub one_of_name : (l : List File) → Rising l → (x y : File) → x ∈ l → y ∈ l → x.name ≡ y.name → x ≡ y
one_of_name [] s x y m n e = absurd (Memᴰ.not-nil m)
one_of_name (f ∷ fs) s x y m n e = go (Memᴰ.cases_cons m) (Memᴰ.cases_cons n) (λ p q. one_of_name fs s.1 x y p q e)
  where
    no_two : (a b : File) → a ≡ f → b ∈ fs → a.name ≡ b.name → ⊥
    no_two a b k q r = below_irrefl f.name (subst (λ (w : List ℕ). Below f.name w) (sym r ∙ ap (λ (c : File). c.name) k) (above_all f.name fs s.0 s.1 b q))

    go : (x ≡ f) ⊎ (x ∈ fs) → (y ≡ f) ⊎ (y ∈ fs) → (x ∈ fs → y ∈ fs → x ≡ y) → x ≡ y
    go (inl p) (inl q) ih = p ∙ sym q
    go (inl p) (inr q) ih = absurd (no_two x y p q e)
    go (inr p) (inl q) ih = absurd (no_two y x q p (sym e))
    go (inr p) (inr q) ih = ih p q

abbrev pub AllOK : List File → Type 0
AllOK fs = (f : File) → f ∈ fs → Valid file f

abbrev pub Within : List File → List File → Type 0
Within a b = (f : File) → f ∈ a → f ∈ b

within_other : (fs gs a b : List File) → AllOK gs → Highest fs a → Highest gs b → Within fs gs → Within gs fs → Within a b
within_other fs gs a b ok h k p q f m =
    let t = k.covers f (p f (h.from f m)) in
    let u = h.covers t.cover (q t.cover (k.from t.cover t.within)) in
    let e : u.cover ≡ f = one_of_name a (rising_is a h.rising) u.cover f u.within m (u.named ∙ t.named) in
    let low : AtLeast f t.cover = subst (λ (z : File). AtLeast z t.cover) e u.high in
    let same : f ≡ t.cover = at_least_same f t.cover (ok f (p f (h.from f m))) (ok t.cover (k.from t.cover t.within)) (sym t.named) low t.high in
    Memᴰ.cast same t.within

-- the highest records go by which records there are, and not by their order or how often they stand
pub highest_same : (fs gs a b : List File) → AllOK gs → Highest fs a → Highest gs b → Within fs gs → Within gs fs → a ≡ b
highest_same fs gs a b ok h k p q =
    same_members a b (rising_is a h.rising) (rising_is b k.rising) (within_other fs gs a b ok h k p q) (within_other gs fs b a (λ f m. ok f (p f m)) k h q p)
