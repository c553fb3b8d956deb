-- The record that comes first of several tables is the head of their merged table, and what is left of them gives the rest.
use Prim.Native.Nat.{ℕ, zero, suc, ◌<◌}
use mathlib.Core.List.Memᴰ
use mathlib.Core.List.{List, [], ◌∷◌, map}
use mathlib.Core.Path.{◌≡◌, refl, sym, ap, subst, ◌∙◌}
use mathlib.Core.Logic.{◌⊎◌, inl, inr, ⊎_elim}
use mathlib.Core.Bool.{cond, true, false}
use native.Mathlib.Omega.{arith}
use lib.ListN.{length, get_or, get_or-map}
use Rattle.record.specs.File.{File}
use Rattle.order.specs.Order.{is_equal, compare_lists}
use Rattle.order.proofs.OrderLaws.{Below, reversed, compare_reversed, same_equal}
use Rattle.record.proofs.RisingLaws.{Above, Rising, rising_test}
use Rattle.merge.specs.Merged.{merged_of}
use Rattle.merge.specs.Highest.{joined, AtLeast, Covered, Highest}
use Rattle.merge.proofs.HighestLaws.{◌∈◌, above_all, AllOK, merged_highest, highest_same}
use Rattle.merge.proofs.MergeLaws.{merged_rising}

-- a record that no record of a list goes before: of one name, none is higher
abbrev pub Leads : File → List File → Type 0
Leads w [] = Unit {0}
Leads w (g ∷ gs) = Below w.name g.name ⊎ ((w.name ≡ g.name) × AtLeast w g)

-- what is left of a list after its record of that name
abbrev pub without : File → List File → List File
without w [] = []
without w (f ∷ fs) = cond (is_equal (compare_lists f.name w.name)) fs (f ∷ fs)

pub above_test : (m n : List ℕ) → Below m n → is_equal (compare_lists n m) ≡ false
above_test m n b = ap is_equal (compare_reversed m n ∙ ap reversed b)

pub same_test : (m n : List ℕ) → m ≡ n → is_equal (compare_lists n m) ≡ true
same_test m n e = rw e (ap is_equal (same_equal n))

module _ (w : File) where
  pub all_left : (f : File) (fs : List File) → Below w.name f.name → without w (f ∷ fs) ≡ f ∷ fs
  all_left f fs b = rw (above_test w.name f.name b) refl

  pub tail_left : (f : File) (fs : List File) → w.name ≡ f.name → without w (f ∷ fs) ≡ fs
  tail_left f fs e = rw (same_test w.name f.name e) refl

  pub rest_above : (l : List File) → Leads w l → Rising l → (g : File) → g ∈ without w l → Below w.name g.name
  rest_above [] a r g m = absurd (Memᴰ.not-nil m)
  rest_above (f ∷ fs) (inl p) r g m = above_all w.name (f ∷ fs) p r g (subst (λ (l : List File). g ∈ l) (all_left f fs p) m)
  rest_above (f ∷ fs) (inr e) r g m =
      subst (λ (n : List ℕ). Below n g.name) (sym e.0) (above_all f.name fs r.0 r.1 g (subst (λ (l : List File). g ∈ l) (tail_left f fs e.0) m))

  pub rest_in : (l : List File) → Leads w l → (g : File) → g ∈ without w l → g ∈ l
  rest_in [] a g m = m
  rest_in (f ∷ fs) (inl p) g m = subst (λ (l : List File). g ∈ l) (all_left f fs p) m
  rest_in (f ∷ fs) (inr e) g m = Memᴰ.tail (subst (λ (l : List File). g ∈ l) (tail_left f fs e.0) m)

  rest_or : (l : List File) → Leads w l → (g : File) → g ∈ l → (g ∈ without w l) ⊎ ((w.name ≡ g.name) × AtLeast w g)
  rest_or [] a g m = inl m
  rest_or (f ∷ fs) (inl p) g m = inl (subst (λ (l : List File). g ∈ l) (sym (all_left f fs p)) m)
  rest_or (f ∷ fs) (inr e) g m = go (Memᴰ.cases_cons m)
    where
      go : (g ≡ f) ⊎ (g ∈ fs) → (g ∈ without w (f ∷ fs)) ⊎ ((w.name ≡ g.name) × AtLeast w g)
      go (inl k) = inr (rw k e)
      go (inr k) = inl (subst (λ (l : List File). g ∈ l) (sym (tail_left f fs e.0)) k)

  pub rest_rising : (l : List File) → Leads w l → Rising l → Rising (without w l)
  rest_rising [] a r = tt
  rest_rising (f ∷ fs) (inl p) r = subst Rising (sym (all_left f fs p)) r
  rest_rising (f ∷ fs) (inr e) r = subst Rising (sym (tail_left f fs e.0)) r.1

-- the records of several lists, by the number of the list

pub record Within (ls : List (List File)) (g : File) : Type 0 where
  pub number : ℕ
  pub small : number < length ls
  pub there : g ∈ get_or ls number []

pub in_joined : (ls : List (List File)) (g : File) → g ∈ joined ls → Within ls g
in_joined [] g m = absurd (Memᴰ.not-nil m)
in_joined (l ∷ ls) g m = go (Memᴰ.append_cases l m) (λ k. in_joined ls g k)
  where
    go : (g ∈ l) ⊎ (g ∈ joined ls) → (g ∈ joined ls → Within ls g) → Within (l ∷ ls) g
    go (inl k) ih = record { number = 0; small = omega arith; there = k }
    go (inr k) ih = let i = ih k in record { number = suc i.number; small = omega (arith, i.small); there = i.there }

pub joined_in : (ls : List (List File)) (k : ℕ) (g : File) → k < length ls → g ∈ get_or ls k [] → g ∈ joined ls
joined_in [] k g h m = absurd (omega arith)
joined_in (l ∷ ls) zero g h m = Memᴰ.append_left (joined ls) m
joined_in (l ∷ ls) (suc k) g h m = Memᴰ.append_right l (joined_in ls k g (omega arith) m)

pub length_map : {A B : Type 0} (f : A → B) (l : List A) → length (map f l) ≡ length l
length_map f [] = refl
length_map f (x ∷ l) = ap suc (length_map f l)

pub left_of : (w : File) (ls : List (List File)) (k : ℕ) → get_or (map (without w) ls) k [] ≡ without w (get_or ls k [])
left_of w ls k = get_or-map (without w) ls k []

-- w heads one of the lists, and leads all of them
pub record Heading (ls : List (List File)) (w : File) : Type 0 where
  pub number : ℕ
  pub small : number < length ls
  pub tail : List File
  pub is : get_or ls number [] ≡ w ∷ tail
  pub leads : (k : ℕ) → k < length ls → Leads w (get_or ls k [])
  pub rising : (k : ℕ) → k < length ls → Rising (get_or ls k [])
  pub ok : AllOK (joined ls)

module _ {ls : List (List File)} {w : File} (h : Heading ls w) where
  -- the record itself is one of them
  pub head_in : w ∈ joined ls
  head_in = joined_in ls h.number w h.small (subst (λ (l : List File). w ∈ l) (sym h.is) (Memᴰ.head refl))

  -- where a record that is left stands
  left_at : (g : File) → g ∈ joined (map (without w) ls) → Within ls g × Below w.name g.name
  left_at g m =
      let i = in_joined (map (without w) ls) g m in
      let k : i.number < length ls = omega (arith, i.small, length_map (without w) ls) in
      let there : g ∈ without w (get_or ls i.number []) = subst (λ (l : List File). g ∈ l) (left_of w ls i.number) i.there in (
        record { number = i.number; small = k; there = rest_in w (get_or ls i.number []) (h.leads i.number k) g there },
        rest_above w (get_or ls i.number []) (h.leads i.number k) (h.rising i.number k) g there,
      )

  pub left_above : (g : File) → g ∈ joined (map (without w) ls) → Below w.name g.name
  left_above g m = (left_at g m).1

  pub left_in : (g : File) → g ∈ joined (map (without w) ls) → g ∈ joined ls
  left_in g m = let i = (left_at g m).0 in joined_in ls i.number g i.small i.there

  heads_rest : (m : List File) → ((g : File) → g ∈ m → Below w.name g.name) → Above w.name m
  heads_rest [] p = tt
  heads_rest (g ∷ gs) p = p g (Memᴰ.head refl)

  highest : Highest (joined ls) (w ∷ merged_of (map (without w) ls))
  highest =
      let rest : List (List File) = map (without w) ls in
      let m = merged_highest rest in
      record {
        rising = rising_test (w ∷ merged_of rest) (heads_rest (merged_of rest) (λ g i. left_above g (m.from g i)), merged_rising rest);
        from = λ g i. ⊎_elim (λ e. subst (λ (x : File). x ∈ joined ls) (sym e) head_in) (λ k. left_in g (m.from g k)) (Memᴰ.cases_cons i);
        covers = λ g i. tops g (in_joined ls g i);
      }
    where
      tops : (g : File) → Within ls g → Covered (w ∷ merged_of (map (without w) ls)) g
      tops g i = go (rest_or w (get_or ls i.number []) (h.leads i.number i.small) g i.there)
        where
          go : (g ∈ without w (get_or ls i.number [])) ⊎ ((w.name ≡ g.name) × AtLeast w g) → Covered (w ∷ merged_of (map (without w) ls)) g
          go (inl k) =
              let small : i.number < length (map (without w) ls) = omega (arith, i.small, length_map (without w) ls) in
              let there : g ∈ get_or (map (without w) ls) i.number [] = subst (λ (l : List File). g ∈ l) (sym (left_of w ls i.number)) k in
              let t = (merged_highest (map (without w) ls)).covers g (joined_in (map (without w) ls) i.number g small there) in
              record { cover = t.cover; within = Memᴰ.tail t.within; named = t.named; high = t.high }
          go (inr e) = record { cover = w; within = Memᴰ.head refl; named = e.0; high = e.1 }

  pub merged_next : merged_of ls ≡ w ∷ merged_of (map (without w) ls)
  merged_next = highest_same (joined ls) (joined ls) (merged_of ls) (w ∷ merged_of (map (without w) ls)) h.ok (merged_highest ls) highest (λ f m. m) (λ f m. m)
