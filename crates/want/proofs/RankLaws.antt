-- The next name over five tables: what the loop over them keeps.
use Rattle.std.specs.Prelude.{Some, None}
use Rattle.std.specs.declared.option.Option.{Option}
use Prim.Native.Nat.{ℕ, ◌+◌, ◌≤◌, ◌<◌}
use mathlib.Core.List.{List, [], ◌∷◌}
use mathlib.Core.Path.{◌≡◌, refl, sym, ap, subst, ◌∙◌}
use mathlib.Core.Logic.{◌⊎◌, inl, inr}
use mathlib.Core.Bool.{Bool, true, false, cond}
use native.Mathlib.Omega.{arith}
use native.Mathlib.Decide.{dec_lt}
use lib.ListN.{length, set, length-set}
use lib.Seq.{get_or-set_same, get_or-set_other}
use Rattle.record.specs.Outline.{outline_of}
use Rattle.record.specs.declared.outline.RecordFields.{RecordFields}
use Rattle.order.specs.Order.{is_equal, compare_lists}
use Rattle.std.specs.declared.cmp.Ordering.{Ordering}
use Rattle.std.specs.declared.cmp.Ordering.TheVariants.{Less, Equal, Greater}
use Rattle.order.proofs.OrderLaws.{Below, equal_same, below_trans, below_irrefl, below_asym, greater_above}
use Rattle.table.specs.Newest.{compare_at}
use Rattle.table.specs.Steps.Side.{side_by, side_of}
use Rattle.merge.specs.Steps.Next.{higher_step, higher_of, next_by, next_of}
use Rattle.want.specs.Steps.Places.{is_first, table_at, place_at, lower_of, lowest_from, past_by, past_name, places_after}
use Rattle.want.proofs.PlaceLaws.{five, Lowest, lowest_starts, lowest_turn, lowest_ends}
use Rattle.want.proofs.HeadLaws.{above_test, same_test}
use Rattle.want.specs.Steps.Head.{name_at, rank_in, rank_by, rank_of, past_of, Passed, Behind, Headed, name_in, order_in}
use Rattle.want.specs.declared.head.Rank.{Rank}
use Rattle.want.specs.declared.head.Rank.TheVariants.{Before, Same, Newer, After}

-- by a rank, how the names compare

abbrev pub order_of : Rank → Ordering
order_of Before = Less
order_of Same = Equal
order_of Newer = Equal
order_of After = Greater

order_in_lem : (n o : Ordering) → order_of (rank_in n o) ≡ n
order_in_lem Less o = refl
order_in_lem Greater o = refl
order_in_lem Equal Less = refl
order_in_lem Equal Equal = refl
order_in_lem Equal Greater = refl

pub names_are : (a : List ℕ) (f : RecordFields) (b : List ℕ) (g : RecordFields) {r : Rank} → rank_by a f b g ≡ r → compare_lists (name_at a f) (name_at b g) ≡ order_of r
names_are a f b g e = sym (order_in_lem (compare_lists (name_at a f) (name_at b g)) (compare_at a f b g)) ∙ ap order_of e

pub order_rank : (a : List ℕ) (f : Option RecordFields) (b : List ℕ) (g : Option RecordFields) → order_of (rank_of a f b g) ≡ order_in (name_in a f) (name_in b g)
order_rank a None b None = refl
order_rank a None b (Some y) = refl
order_rank a (Some x) b None = refl
order_rank a (Some x) b (Some y) = order_in_lem (compare_lists (name_at a x) (name_at b y)) (compare_at a x b y)

-- the first goes first

abbrev is_best : Rank → Bool
is_best Before = true
is_best Same = true
is_best Newer = false
is_best After = false

-- two of one name
first_higher : (o : Ordering) (i x j y : ℕ) → is_first (Some (higher_step o i x j y)) ≡ is_best (rank_in Equal o)
first_higher Less i x j y = refl
first_higher Equal i x j y = refl
first_higher Greater i x j y = refl

first_two : (a : List ℕ) (i : ℕ) (f : RecordFields) (b : List ℕ) (j : ℕ) (g : RecordFields) (n : Ordering) → is_first (next_by (higher_of a i b j) i j (Some (side_by n f g))) ≡ is_best (rank_in n (compare_at a f b g))
first_two a i f b j g Less = refl
first_two a i f b j g Equal = first_higher (compare_at a f b g) i f.past j g.past
first_two a i f b j g Greater = refl

first_in : (a : List ℕ) (i : ℕ) (f : Option RecordFields) (b : List ℕ) (j : ℕ) (g : Option RecordFields) → is_first (next_by (higher_of a i b j) i j (side_of a f b g)) ≡ is_best (rank_of a f b g)
first_in a i None b j None = refl
first_in a i None b j (Some g) = refl
first_in a i (Some f) b j None = refl
first_in a i (Some f) b j (Some g) = first_two a i f b j g (compare_lists (name_at a f) (name_at b g))

first_rank : (a : List ℕ) (i : ℕ) (b : List ℕ) (j : ℕ) → is_first (next_of a i b j) ≡ is_best (rank_of a (outline_of a i) b (outline_of b j))
unfolding next_of
first_rank a i b j = first_in a i (outline_of a i) b j (outline_of b j)

-- a table that is passed

no_record : {g : RecordFields} {x : Option RecordFields} {P : Type 0} → x ≡ None → x ≡ Some g → P
no_record {g} e f = let s : None ≡ Some g = sym e ∙ f in cc

one_record : {g h : RecordFields} {x : Option RecordFields} → x ≡ Some g → x ≡ Some h → g ≡ h
one_record {g} {h} e f = let s : Some g ≡ Some h = sym e ∙ f in cc

module _ (name t : List ℕ) (at : ℕ) where
  past_short : outline_of t at ≡ None → at ≡ past_name name t at
  unfolding past_name
  past_short e = ap (past_by name t at) (sym e)

  past_whole : (g : RecordFields) → outline_of t at ≡ Some g → {v : Bool} → is_equal (compare_lists (name_at t g) name) ≡ v → cond v g.past at ≡ past_name name t at
  unfolding past_name
  past_whole g e {v} h = ap (λ (y : Bool). cond y g.past at) (sym h) ∙ ap (past_by name t at) (sym e)

  passed_short : outline_of t at ≡ None → Passed name t at at
  passed_short e = record { is = past_short e; not_lower = λ g f. no_record e f }

  passed_above : (g : RecordFields) → outline_of t at ≡ Some g → Below name (name_at t g) → Passed name t at at
  passed_above g e b =
      record {
        is = past_whole g e (above_test name (name_at t g) b);
        not_lower = λ h f l. below_asym name (name_at t g) b (ap (λ (x : RecordFields). compare_lists (name_at t x) name) (one_record e f) ∙ l);
      }

  passed_equal : (g : RecordFields) → outline_of t at ≡ Some g → name ≡ name_at t g → Passed name t at g.past
  passed_equal g e n =
      record {
        is = past_whole g e (same_test name (name_at t g) n);
        not_lower = λ h f l. below_irrefl name (ap (λ (x : List ℕ). compare_lists x name) (n ∙ ap (name_at t) (one_record e f)) ∙ l);
      }

-- by a lower name
passed_lower : (name low t : List ℕ) (at : ℕ) {x : ℕ} → Passed name t at x → Below low name → Passed low t at at
passed_lower name low t at w b = go (outline_of t at) refl
  where
    above : (g : RecordFields) → outline_of t at ≡ Some g → (o : Ordering) → compare_lists name (name_at t g) ≡ o → Below low (name_at t g)
    above g e Less c = below_trans low name (name_at t g) b c
    above g e Equal c = subst (λ (l : List ℕ). Below low l) (equal_same name (name_at t g) c) b
    above g e Greater c = absurd (w.not_lower g e (greater_above name (name_at t g) c))

    go : (o : Option RecordFields) → outline_of t at ≡ o → Passed low t at at
    go None e = passed_short low t at e
    go (Some g) e = passed_above low t at g e (above g e (compare_lists name (name_at t g)) refl)

-- a table and the next record so far, by the rank of a further record

own : (t : List ℕ) (at : ℕ) (g : Option RecordFields) → g ≡ outline_of t at → Behind t g t at (past_of g at)
own t at None e = (sym e, refl)
own t at (Some y) e = passed_equal (name_at t y) t at y (sym e) refl

module _ (best : List ℕ) (t : List ℕ) (at : ℕ) where
  behind_before : (f g : Option RecordFields) → g ≡ outline_of t at → rank_of best f t g ≡ Before → Behind best f t at at
  behind_before None None e r = (sym e, refl)
  behind_before None (Some y) e r = cc
  behind_before (Some x) None e r = passed_short (name_at best x) t at (sym e)
  behind_before (Some x) (Some y) e r = passed_above (name_at best x) t at y (sym e) (names_are best x t y r)

  behind_same : (f g : Option RecordFields) → g ≡ outline_of t at → rank_of best f t g ≡ Same → Behind best f t at (past_of g at)
  behind_same None None e r = cc
  behind_same None (Some y) e r = cc
  behind_same (Some x) None e r = cc
  behind_same (Some x) (Some y) e r =
      passed_equal (name_at best x) t at y (sym e) (equal_same (name_at best x) (name_at t y) (names_are best x t y r))

  module _ (s : List ℕ) (i v : ℕ) where
    behind_newer : (f g : Option RecordFields) → rank_of best f t g ≡ Newer → Behind best f s i v → Behind t g s i v
    behind_newer None None r w = cc
    behind_newer None (Some y) r w = cc
    behind_newer (Some x) None r w = cc
    behind_newer (Some x) (Some y) r w =
        subst (λ (l : List ℕ). Passed l s i v) (equal_same (name_at best x) (name_at t y) (names_are best x t y r)) w

    behind_after : (f g : Option RecordFields) → rank_of best f t g ≡ After → Behind best f s i v → Behind t g s i i
    behind_after None None r w = cc
    behind_after None (Some y) r w = passed_short (name_at t y) s i w.0
    behind_after (Some x) None r w = cc
    behind_after (Some x) (Some y) r w =
        passed_lower (name_at best x) (name_at t y) s i w
        (greater_above (name_at best x) (name_at t y) (names_are best x t y r))

-- the loop

up_to : (i k : ℕ) → i < k + 1 → (i < k) ⊎ (k ≡ i)
up_to i k h = go (dec_lt i k)
  where
    go : Dec (i < k) → (i < k) ⊎ (k ≡ i)
    go (yes l) = inl l
    go (no l) = inr (omega arith)

pub head_starts : (ts : List (List ℕ)) (ps : List ℕ) {f : Option RecordFields} {x : ℕ} → f ≡ outline_of (table_at ts 0) (place_at ps 0) → x ≡ past_of f (place_at ps 0) → length ps ≡ 5
    → Headed ts ps 1 0 f (set ps 0 x)
head_starts ts ps {f} {x} e p long =
    record {
      low = (lowest_starts ts ps).same;
      small = omega arith;
      fields_are = e;
      behind = λ i h. let z : 0 ≡ i = omega arith in subst (λ (n : ℕ). Behind (table_at ts 0) f (table_at ts n) (place_at ps n) (place_at (set ps 0 x) n)) z first;
      ahead = λ i h. get_or-set_other ps 0 i x 0 (λ z. omega arith);
      long = length-set ps 0 x ∙ long;
    }
  where
    here : place_at (set ps 0 x) 0 ≡ past_of f (place_at ps 0)
    here = get_or-set_same ps 0 x 0 (omega arith) ∙ p

    first : Behind (table_at ts 0) f (table_at ts 0) (place_at ps 0) (place_at (set ps 0 x) 0)
    first = subst (λ (v : ℕ). Behind (table_at ts 0) f (table_at ts 0) (place_at ps 0) v) (sym here) (own (table_at ts 0) (place_at ps 0) f e)

module _ {ts : List (List ℕ)} {ps : List ℕ} {k best : ℕ} {f : Option RecordFields} {past : List ℕ} (w : Headed ts ps k best f past) (h : k < 5) (long : length ps ≡ 5)
    {g : Option RecordFields} (e : g ≡ outline_of (table_at ts k) (place_at ps k)) {r : Rank} (q : r ≡ rank_of (table_at ts best) f (table_at ts k) g) where
  lower_is : {v : Rank} → r ≡ v → cond (is_best v) best k ≡ lower_of ts ps best k
  lower_is {v} p =
      let same : rank_of (table_at ts best) f (table_at ts k) g ≡ rank_of (table_at ts best) (outline_of (table_at ts best) (place_at ps best)) (table_at ts k) (outline_of (table_at ts k) (place_at ps k)) =
      ap (λ (y : Option RecordFields). rank_of (table_at ts best) y (table_at ts k) g) w.fields_are ∙ ap (rank_of (table_at ts best) (outline_of (table_at ts best) (place_at ps best)) (table_at ts k)) e in
      ap (λ (y : Rank). cond (is_best y) best k) (sym p ∙ q ∙ same) ∙ ap (λ (y : Bool). cond y best k) (sym (first_rank (table_at ts best) (place_at ps best) (table_at ts k) (place_at ps k)))

  was : Lowest ts ps best k
  was = record { same = w.low; small = w.small; few = omega arith }

  low_next : {v : Rank} → r ≡ v → Lowest ts ps (cond (is_best v) best k) (k + 1)
  low_next p = lowest_turn ts ps was h (lower_is p)

  pub head_before : r ≡ Before → Headed ts ps (k + 1) best f past
  head_before p =
      record {
        low = (low_next p).same;
        small = w.small;
        fields_are = w.fields_are;
        behind = λ i l. go i (up_to i k l);
        ahead = λ i l. w.ahead i (omega arith);
        long = w.long;
      }
    where
      here : Behind (table_at ts best) f (table_at ts k) (place_at ps k) (place_at past k)
      here = subst (λ (v : ℕ). Behind (table_at ts best) f (table_at ts k) (place_at ps k) v) (sym (w.ahead k (omega arith))) (behind_before (table_at ts best) (table_at ts k) (place_at ps k) f g e (sym q ∙ p))

      go : (i : ℕ) → (i < k) ⊎ (k ≡ i) → Behind (table_at ts best) f (table_at ts i) (place_at ps i) (place_at past i)
      go i (inl l) = w.behind i l
      go i (inr z) = subst (λ (n : ℕ). Behind (table_at ts best) f (table_at ts n) (place_at ps n) (place_at past n)) z here

  module _ {x : ℕ} (y : x ≡ past_of g (place_at ps k)) where
    -- with the place after its record, which is behind a record of b
    stored : (b : List ℕ) (o : Option RecordFields) (l : List ℕ) → length l ≡ 5 → Behind b o (table_at ts k) (place_at ps k) (past_of g (place_at ps k))
        → ((i : ℕ) → i < k → Behind b o (table_at ts i) (place_at ps i) (place_at l i))
        → (i : ℕ) → i < k + 1 → Behind b o (table_at ts i) (place_at ps i) (place_at (set l k x) i)
    stored b o l m here rest i u = go (up_to i k u)
      where
        go : (i < k) ⊎ (k ≡ i) → Behind b o (table_at ts i) (place_at ps i) (place_at (set l k x) i)
        go (inl v) = subst (λ (n : ℕ). Behind b o (table_at ts i) (place_at ps i) n) (sym (get_or-set_other l k i x 0 (λ z. omega arith))) (rest i v)
        go (inr z) =
            subst (λ (n : ℕ). Behind b o (table_at ts n) (place_at ps n) (place_at (set l k x) n)) z
            (subst (λ (n : ℕ). Behind b o (table_at ts k) (place_at ps k) n) (sym (get_or-set_same l k x 0 (omega arith) ∙ y)) here)

    pub head_same : r ≡ Same → Headed ts ps (k + 1) best f (set past k x)
    head_same p =
        record {
          low = (low_next p).same;
          small = w.small;
          fields_are = w.fields_are;
          behind = stored (table_at ts best) f past w.long (behind_same (table_at ts best) (table_at ts k) (place_at ps k) f g e (sym q ∙ p)) w.behind;
          ahead = λ i l. get_or-set_other past k i x 0 (λ z. omega arith) ∙ w.ahead i (omega arith);
          long = length-set past k x ∙ w.long;
        }

    pub head_newer : r ≡ Newer → Headed ts ps (k + 1) k g (set past k x)
    head_newer p =
        record {
          low = (low_next p).same;
          small = h;
          fields_are = e;
          behind =
              stored (table_at ts k) g past w.long (own (table_at ts k) (place_at ps k) g e)
              (λ i l. behind_newer (table_at ts best) (table_at ts k) (place_at ps k) (table_at ts i) (place_at ps i) (place_at past i) f g (sym q ∙ p) (w.behind i l));
          ahead = λ i l. get_or-set_other past k i x 0 (λ z. omega arith) ∙ w.ahead i (omega arith);
          long = length-set past k x ∙ w.long;
        }

    pub head_after : r ≡ After → Headed ts ps (k + 1) k g (set ps k x)
    head_after p =
        record {
          low = (low_next p).same;
          small = h;
          fields_are = e;
          behind =
              stored (table_at ts k) g ps long (own (table_at ts k) (place_at ps k) g e)
              (λ i l. behind_after (table_at ts best) (table_at ts k) (place_at ps k) (table_at ts i) (place_at ps i) (place_at past i) f g (sym q ∙ p) (w.behind i l));
          ahead = λ i l. get_or-set_other ps k i x 0 (λ z. omega arith);
          long = length-set ps k x ∙ long;
        }

-- by the answers that were given

pub rank_names : {x n m : Ordering} (o : Ordering) → x ≡ n → x ≡ m → rank_in n o ≡ rank_in m o
rank_names o e f = ap (λ (y : Ordering). rank_in y o) (sym e ∙ f)

pub rank_records : {y v u : Ordering} → y ≡ v → y ≡ u → rank_in Equal v ≡ rank_in Equal u
rank_records g h = ap (rank_in Equal) (sym g ∙ h)

pub rank_equal : (a : List ℕ) (f : RecordFields) (b : List ℕ) {g h : RecordFields} {x m : Ordering} {r : Rank} → x ≡ Equal → x ≡ m → r ≡ rank_in Equal (compare_at a f b g) → g ≡ h → r ≡ rank_in m (compare_at a f b h)
rank_equal a f b {g} {h} e n q k = q ∙ ap (λ (y : RecordFields). rank_in Equal (compare_at a f b y)) k ∙ ap (λ (o : Ordering). rank_in o (compare_at a f b h)) (sym e ∙ n)

pub names_by : {x y l m : List ℕ} {o : Ordering} → x ≡ l → y ≡ m → o ≡ compare_lists x y → o ≡ compare_lists l m
names_by {x} {y} {l} p q c = c ∙ ap (λ (z : List ℕ). compare_lists z y) p ∙ ap (compare_lists l) q

module _ (a b : List ℕ) {f g : Option RecordFields} {y : RecordFields} (k : g ≡ Some y) where
  pub stands_after : f ≡ None → After ≡ rank_of a f b g
  stands_after e = sym (ap (rank_of a f b) k ∙ ap (λ (o : Option RecordFields). rank_of a o b (Some y)) e)

  pub stands_by : {x : RecordFields} {r : Rank} → f ≡ Some x → r ≡ rank_by a x b y → r ≡ rank_of a f b g
  stands_by e q = q ∙ sym (ap (rank_of a f b) k ∙ ap (λ (o : Option RecordFields). rank_of a o b (Some y)) e)

-- in tables that are lent as others

pub outline_in : {s t : List ℕ} (at : ℕ) {g : Option RecordFields} → g ≡ outline_of s at → s ≡ t → g ≡ outline_of t at
outline_in at e k = e ∙ ap (λ (l : List ℕ). outline_of l at) k

pub rank_in_lem : {a b s t : List ℕ} (f : Option RecordFields) (at : ℕ) {r : Rank} → r ≡ rank_of a f b (outline_of b at) → a ≡ s → b ≡ t → r ≡ rank_of s f t (outline_of t at)
rank_in_lem {a} {b} {s} f at e k l = e ∙ ap (λ (x : List ℕ). rank_of x f b (outline_of b at)) k ∙ ap (λ (x : List ℕ). rank_of s f x (outline_of x at)) l

pub past_in : {g h : Option RecordFields} {x : ℕ} (at : ℕ) → x ≡ past_of g at → g ≡ h → x ≡ past_of h at
past_in at e k = e ∙ ap (λ (o : Option RecordFields). past_of o at) k

pub head_as : {ts : List (List ℕ)} {ps : List ℕ} {k b c : ℕ} {f g : Option RecordFields} {l m : List ℕ} → Headed ts ps k b f l → c ≡ b → g ≡ f → m ≡ l → Headed ts ps k c g m
head_as {ts} {ps} {k} {b} {c} {f} {g} {l} {m} w p q r =
    subst (λ (x : ℕ). Headed ts ps k x g m) (sym p) (subst (λ (x : Option RecordFields). Headed ts ps k b x m) (sym q) (subst (λ (x : List ℕ). Headed ts ps k b f x) (sym r) w))

pub head_ends : {ts : List (List ℕ)} {ps : List ℕ} {k b : ℕ} {f : Option RecordFields} {l : List ℕ} → Headed ts ps k b f l → k ≤ 5 → 5 ≤ k → Headed ts ps 5 b f l
head_ends {ts} {ps} {k} {b} {f} {l} w p q = let z : k ≡ 5 = omega arith in subst (λ (x : ℕ). Headed ts ps x b f l) z w

-- what it is for: the table with the next record, and the places after its name

pub headed_lowest : {ts : List (List ℕ)} {ps : List ℕ} {b : ℕ} {f : Option RecordFields} {l : List ℕ} → Headed ts ps 5 b f l → b ≡ lowest_from ts ps 0 1 4
headed_lowest {ts} {ps} w = lowest_ends ts ps (record { same = w.low; small = w.small; few = omega arith }) (omega arith)

five_places : (l : List ℕ) → length l ≡ 5 → l ≡ place_at l 0 ∷ place_at l 1 ∷ place_at l 2 ∷ place_at l 3 ∷ place_at l 4 ∷ []
five_places (a ∷ b ∷ c ∷ d ∷ e ∷ []) h = refl
five_places [] h = absurd (omega arith)
five_places (a ∷ []) h = absurd (omega arith)
five_places (a ∷ b ∷ []) h = absurd (omega arith)
five_places (a ∷ b ∷ c ∷ []) h = absurd (omega arith)
five_places (a ∷ b ∷ c ∷ d ∷ []) h = absurd (omega arith)
five_places (a ∷ b ∷ c ∷ d ∷ e ∷ x ∷ l) h = absurd (omega arith)

pub headed_past : {ts : List (List ℕ)} {ps : List ℕ} {b : ℕ} {f : RecordFields} {l : List ℕ} → Headed ts ps 5 b (Some f) l → l ≡ places_after ts ps (name_at (table_at ts b) f)
headed_past {l = l} w =
    five_places l w.long
    ∙ five (w.behind 0 (omega arith)).is (w.behind 1 (omega arith)).is (w.behind 2 (omega arith)).is (w.behind 3 (omega arith)).is (w.behind 4 (omega arith)).is
