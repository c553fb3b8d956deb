-- Which of several tables has the record that comes first, where records of each are left.
use Rattle.std.specs.Prelude.{Some}
use Rattle.std.specs.declared.option.Option.{Option}
use Prim.Native.Nat.{ℕ, zero, suc, ◌+◌, ◌<◌}
use mathlib.Core.List.{List, [], ◌∷◌}
use mathlib.Core.Path.{◌≡◌, refl, sym, subst, ◌∙◌}
use mathlib.Core.Logic.{◌⊎◌, inl, inr}
use mathlib.Core.Bool.{Bool, true, false, cond}
use native.Mathlib.Omega.{arith}
use native.Mathlib.Decide.{dec_lt}
use lib.ListN.{get_or}
use Rattle.record.specs.File.{File}
use Rattle.record.specs.Outline.{fields_of}
use Rattle.table.specs.Newest.{compare_files, compare_at}
use Rattle.table.specs.declared.side.Side.{Side}
use Rattle.std.specs.declared.cmp.Ordering.{Ordering}
use Rattle.std.specs.declared.cmp.Ordering.TheVariants.{Less, Equal, Greater}
use Rattle.order.proofs.OrderLaws.{Below, equal_same, below_trans, below_irrefl, below_asym}
use Rattle.record.proofs.RisingLaws.{Above}
use Rattle.table.proofs.NewestLaws.{at_least_itself, at_least_reversed, at_least_trans}
use Rattle.table.specs.Steps.Standing.{At}
use Rattle.table.proofs.WalkLaws.{compared_there}
use Rattle.table.proofs.SideLaws.{shows_at, Told, told_none, told_left, told_right, told_both, told}
use Rattle.merge.specs.declared.next.Pick.{Pick}
use Rattle.merge.specs.Highest.{AtLeast}
use Rattle.merge.specs.Steps.Next.{higher_step, higher_of, next_by, next_of}
use Rattle.want.specs.Steps.Places.{is_first, table_at, place_at, lower_of, lowest_from}
use Rattle.want.proofs.PlaceLaws.{lower_small}
use Rattle.want.proofs.HeadLaws.{Leads}

-- the head of the first list leads the second; where there is none, the second is empty too
abbrev pub First : List File → List File → Type 0
First [] gs = gs ≡ []
First (f ∷ fs) gs = Leads f gs

leads_trans : (f g : File) (hs : List File) → Below f.name g.name ⊎ ((f.name ≡ g.name) × AtLeast f g) → Leads g hs → Leads f hs
leads_trans f g [] p q = tt
leads_trans f g (h ∷ hs) (inl p) (inl q) = inl (below_trans f.name g.name h.name p q)
leads_trans f g (h ∷ hs) (inl p) (inr q) = inl (subst (λ (n : List ℕ). Below f.name n) q.0 p)
leads_trans f g (h ∷ hs) (inr p) (inl q) = inl (subst (λ (n : List ℕ). Below n h.name) (sym p.0) q)
leads_trans f g (h ∷ hs) (inr p) (inr q) = inr (p.0 ∙ q.0, at_least_trans h g f q.1 p.1)

first_self : (fs : List File) → First fs fs
first_self [] = refl
first_self (f ∷ fs) = inr (refl, at_least_itself f)

first_trans : (fs gs hs : List File) → First fs gs → First gs hs → First fs hs
first_trans [] gs hs p q = subst (λ (l : List File). First l hs) p q
first_trans (f ∷ fs) [] hs p q = subst (λ (l : List File). Leads f l) (sym q) tt
first_trans (f ∷ fs) (g ∷ gs) hs p q = leads_trans f g hs p q

-- what a step of merging tells: the second goes first only where the first does not lead it
abbrev FirstBy : Bool → List File → List File → Type 0
FirstBy true fs gs = First fs gs
FirstBy false fs gs = First gs fs × (First fs gs → ⊥)

abbrev Firsts : List File → List File → Option Pick → Type 0
Firsts fs gs n = FirstBy (is_first n) fs gs

above_leads : (f : File) (gs : List File) → Above f.name gs → Leads f gs
above_leads f [] a = tt
above_leads f (g ∷ gs) a = inl a

-- a list does not lead one whose head is below it by name
not_above : (g : File) (fs gs : List File) → Above g.name fs → First fs (g ∷ gs) → ⊥
not_above g [] gs a p = let z : ◌≡◌ {A = ℕ} 0 1 = cc in omega arith
not_above g (f ∷ fs) gs a (inl p) = below_asym g.name f.name a p
not_above g (f ∷ fs) gs a (inr p) = below_irrefl g.name (subst (λ (n : List ℕ). Below g.name n) p.0 a)

-- or whose head is of the same name and higher
not_higher : (f g : File) (gs : List File) → f.name ≡ g.name → compare_files f g ≡ Less → Leads f (g ∷ gs) → ⊥
not_higher f g gs e h (inl p) = below_irrefl g.name (subst (λ (n : List ℕ). Below n g.name) e p)
not_higher f g gs e h (inr p) = p.1 h

first_told : {a b : List ℕ} {i j : ℕ} {fs gs : List File} {t : Option Side} → Told i j fs gs t → At a i fs → At b j gs → Firsts fs gs (next_by (higher_of a i b j) i j t)
first_told told_none u w = refl
first_told (told_left f fs gs h) u w = above_leads f gs h
first_told (told_right g fs gs h) u w = (above_leads g fs h, not_above g fs gs h)
first_told {a} {b} {i} {j} (told_both f g fs gs e) u w = go (compare_at a (fields_of i f) b (fields_of j g)) (sym (compared_there u w))
  where
    go : (o : Ordering) → compare_files f g ≡ o → Firsts (f ∷ fs) (g ∷ gs) (Some (higher_step o i (fields_of i f).past j (fields_of j g).past))
    go Less h = let same = equal_same f.name g.name e in (inr (sym same, at_least_reversed f g h), not_higher f g gs same h)
    go Equal h = inr (equal_same f.name g.name e, λ k. let z : ◌≡◌ {A = ℕ} 0 1 = cc (sym h ∙ k) in omega arith)
    go Greater h = inr (equal_same f.name g.name e, λ k. let z : ◌≡◌ {A = ℕ} 0 1 = cc (sym h ∙ k) in omega arith)

firsts : (a : List ℕ) (i : ℕ) (b : List ℕ) (j : ℕ) (fs gs : List File) → At a i fs → At b j gs → Firsts fs gs (next_of a i b j)
unfolding next_of
firsts a i b j fs gs u w = first_told (told (shows_at fs u) (shows_at gs w)) u w

-- the lowest of all
module _ (ts : List (List ℕ)) (ps : List ℕ) (ls : List (List File)) (at : (k : ℕ) → k < 5 → At (table_at ts k) (place_at ps k) (get_or ls k [])) where
  abbrev Leading : (best k : ℕ) → Type 0
  Leading best k = (m : ℕ) → m < k → First (get_or ls best []) (get_or ls m [])

  -- no table before it leads it
  abbrev Earliest : (best : ℕ) → Type 0
  Earliest best = (m : ℕ) → m < best → First (get_or ls m []) (get_or ls best []) → ⊥

  pub record Lead (best : ℕ) : Type 0 where
    pub small : best < 5
    pub leads : (m : ℕ) → m < 5 → First (get_or ls best []) (get_or ls m [])
    pub earliest : (m : ℕ) → m < best → First (get_or ls m []) (get_or ls best []) → ⊥

  lead_more : (best k : ℕ) → best < 5 → k < 5 → Leading best k → Earliest best → Leading (lower_of ts ps best k) (k + 1) × Earliest (lower_of ts ps best k)
  lead_more best k p q lead alone = go (is_first (next_of (table_at ts best) (place_at ps best) (table_at ts k) (place_at ps k))) (firsts (table_at ts best) (place_at ps best) (table_at ts k) (place_at ps k) (get_or ls best []) (get_or ls k []) (at best p) (at k q))
    where
      last : (b m : ℕ) → First (get_or ls b []) (get_or ls k []) → m < k + 1 → Dec (m < k) → (m < k → First (get_or ls b []) (get_or ls m [])) → First (get_or ls b []) (get_or ls m [])
      last b m f h (yes l) before = before l
      last b m f h (no l) before = let e : k ≡ m = omega arith in subst (λ (n : ℕ). First (get_or ls b []) (get_or ls n [])) e f

      go : (t : Bool) → FirstBy t (get_or ls best []) (get_or ls k []) → Leading (cond t best k) (k + 1) × Earliest (cond t best k)
      go true f = (λ m h. last best m f h (dec_lt m k) (λ l. lead m l), alone)
      go false f = (
        λ m h. last k m (first_self (get_or ls k [])) h (dec_lt m k) (λ l. first_trans (get_or ls k []) (get_or ls best []) (get_or ls m []) f.0 (lead m l)),
        λ m l g. f.1 (first_trans (get_or ls best []) (get_or ls m []) (get_or ls k []) (lead m l) g),
      )

  lead_all : (left best k : ℕ) → k + left ≡ 5 → best < 5 → Leading best k → Earliest best → Lead (lowest_from ts ps best k left)
  unfolding lowest_from
  lead_all zero best k e p lead alone = record { small = p; leads = λ m h. lead m (omega arith); earliest = alone }
  lead_all (suc left) best k e p lead alone =
      let more = lead_more best k p (omega arith) lead alone in
      lead_all left (lower_of ts ps best k) (k + 1) (omega arith) (lower_small ts ps best k p (omega arith)) more.0 more.1

  -- the table that is found leads all, and none before it does
  pub lowest_leads : Lead (lowest_from ts ps 0 1 4)
  lowest_leads = lead_all 4 0 1 refl (omega arith) (λ m h. let e : 0 ≡ m = omega arith in subst (λ (n : ℕ). First (get_or ls 0 []) (get_or ls n [])) e (first_self (get_or ls 0 []))) (λ m h. absurd (omega arith))
