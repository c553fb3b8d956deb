-- The best record so far, and one more.
use Rattle.std.specs.Prelude.{Some, None}
use Rattle.std.specs.declared.option.Option.{Option}
use Prim.Native.Nat.{ℕ, suc, ◌+◌, ◌<◌}
use mathlib.Core.List.{List, [], ◌∷◌, map}
use mathlib.Core.Path.{◌≡◌, refl, sym, ap, subst, ◌∙◌}
use mathlib.Core.Bool.{Bool, true, false, cond}
use native.Mathlib.Omega.{arith}
use native.Mathlib.Numerals.{add-one}
use lib.ListN.{drop, drop_of_length-le}
use lib.Seq.{drop-cons}
use Rattle.order.specs.Order.{is_less, is_equal, compare_lists}
use Rattle.std.specs.declared.cmp.Ordering.{Ordering}
use Rattle.std.specs.declared.cmp.Ordering.TheVariants.{Less, Equal, Greater}
use Rattle.record.specs.File.{File}
use Rattle.record.specs.Outline.{outline_of, fields_of}
use Rattle.record.specs.declared.outline.RecordFields.{RecordFields}
use Rattle.table.specs.Newest.{compare_files, compare_at}
use Rattle.table.specs.Steps.Standing.{At}
use Rattle.table.proofs.WalkLaws.{compared_there, Headed, at_whole, at_short}
use Rattle.table.specs.Table.{records}
use Rattle.table.proofs.TableLaws.{good_table}
use Rattle.record.proofs.RisingLaws.{Rising}
use Rattle.merge.specs.Merged.{higher_by, higher, merged_of}
use Rattle.want.specs.Steps.Places.{table_at, Five}
use Rattle.reason.specs.Steps.{named_from, lookup, first_of, higher_in, HeadAt, BestIn, BestOf}
use Rattle.reason.specs.declared.highest.Best.{Best}
use Rattle.reason.proofs.LookupLaws.{merged_named}

-- the higher of two records, by how they compare

higher_less : (f g : File) → is_less (compare_files f g) ≡ true → higher f g ≡ g
higher_less f g h = go (compare_files f g) h
  where
    go : (o : Ordering) → is_less o ≡ true → higher_by o f g ≡ g
    go Less e = refl
    go Equal e = cc
    go Greater e = cc

higher_not : (f g : File) → is_less (compare_files f g) ≡ false → higher f g ≡ f
higher_not f g h = go (compare_files f g) h
  where
    go : (o : Ordering) → is_less o ≡ false → higher_by o f g ≡ f
    go Less e = cc
    go Equal e = refl
    go Greater e = refl

-- the record at a place, by the outline that was answered

head_none : {t : List ℕ} {at : ℕ} {l : List File} {x : Option RecordFields} → HeadAt t at l → x ≡ outline_of t at → x ≡ None → l ≡ []
head_none h e g = h.is ∙ ap first_of (at_short h.here e g)

-- a record that stands in a table is the best
best_at : {ts : List (List ℕ)} {b : Best} {l : List File} → BestIn ts b l → BestOf ts (Some b) l
best_at {ts} {b} {l} w = record { none = λ e. cc; some = λ c e. let k : Some b ≡ Some c = e in let same : b ≡ c = cc in subst (λ (y : Best). BestIn ts y l) same w }

module _ {ts : List (List ℕ)} {x : Option Best} {l m : List File} {k at : ℕ} (r : BestOf ts x m) (small : k < 5) (h : HeadAt (table_at ts k) at l) {y : Option RecordFields} (e : y ≡ outline_of (table_at ts k) at) where
  -- no record is there
  pub best_none : y ≡ None → BestOf ts x (higher_in l m)
  best_none g = subst (λ (z : List File). BestOf ts x (higher_in z m)) (sym (head_none h e g)) r

  module _ {f : RecordFields} (g : y ≡ Some f) where
    w : Headed (table_at ts k) at h.left f
    w = at_whole h.here e g

    l_is : l ≡ w.head ∷ []
    l_is = h.is ∙ ap first_of w.is

    -- the record here, where it is the higher
    here_best : (z : List File) → z ≡ w.head ∷ [] → BestOf ts (Some (record { table = k; fields = f })) z
    here_best z q = best_at (record { small = small; stood = record { place = at; head = w.head; tail = w.tail; fields_are = w.fields; here = w.stands }; is = q })

    pub best_first : x ≡ None → BestOf ts (Some (record { table = k; fields = f })) (higher_in l m)
    best_first n = here_best (higher_in l m) (ap (higher_in l) (r.none n) ∙ ap (λ (z : List File). higher_in z []) l_is)

    module _ {b : Best} (n : x ≡ Some b) {o : Ordering} (s : o ≡ compare_at (table_at ts k) f (table_at ts b.table) b.fields) where
      abbrev u : BestIn ts b m
      u = r.some b n

      order_is : o ≡ compare_files w.head u.stood.head
      order_is =
          s
          ∙ ap (λ (i : RecordFields). compare_at (table_at ts k) i (table_at ts b.table) b.fields) w.fields
          ∙ ap (λ (i : RecordFields). compare_at (table_at ts k) (fields_of at w.head) (table_at ts b.table) i) u.stood.fields_are
          ∙ compared_there w.stands u.stood.here

      both : higher_in l m ≡ higher w.head u.stood.head ∷ []
      both = ap (λ (i : List File). higher_in i m) l_is ∙ ap (higher_in (w.head ∷ [])) u.is

      pub best_stays : is_less o ≡ true → BestOf ts x (higher_in l m)
      best_stays i = subst (λ (z : List File). BestOf ts x z) (sym (both ∙ ap (λ (z : File). z ∷ []) (higher_less w.head u.stood.head (ap is_less (sym order_is) ∙ i)) ∙ sym u.is)) r

      pub best_new : is_less o ≡ false → BestOf ts (Some (record { table = k; fields = f })) (higher_in l m)
      best_new i = here_best (higher_in l m) (both ∙ ap (λ (z : File). z ∷ []) (higher_not w.head u.stood.head (ap is_less (sym order_is) ∙ i)))

-- a comparison of records in the same bytes
pub compared_in : {s s' t t' : List ℕ} (f g : RecordFields) {o : Ordering} → o ≡ compare_at s f t g → s ≡ s' → t ≡ t' → o ≡ compare_at s' f t' g
compared_in {s} {s'} {t} {t'} f g e p q = e ∙ ap (λ (x : List ℕ). compare_at x f t g) p ∙ ap (λ (x : List ℕ). compare_at s' f x g) q

-- from the last table on

first_named : (name : List ℕ) (l : List File) → lookup name l ≡ first_of (named_from name l)
first_named name [] = refl
first_named name (f ∷ l) = go (is_equal (compare_lists f.name name)) (first_named name l)
  where
    go : (b : Bool) → lookup name l ≡ first_of (named_from name l) → cond b (f ∷ []) (lookup name l) ≡ first_of (cond b (f ∷ l) (named_from name l))
    go true e = refl
    go false e = e

pub named_head : (t name : List ℕ) {at : ℕ} → At t at (named_from name (records t)) → HeadAt t at (lookup name (records t))
named_head t name a = record { left = named_from name (records t); here = a; is = first_named name (records t) }

-- the records of the tables from number k on
abbrev pub merged_from : List (List ℕ) → ℕ → List File
merged_from ts k = merged_of (map records (drop k ts))

module _ {ts : List (List ℕ)} (v : Five ts) (name : List ℕ) where
  pub best_starts : BestOf ts None (lookup name (merged_from ts 5))
  unfolding merged_of
  best_starts =
      let none : drop 5 ts ≡ [] = drop_of_length-le ts {i = 5} (omega (arith, v.many)) in
      record { none = λ e. ap (λ (l : List (List ℕ)). lookup name (merged_of (map records l))) none; some = λ b e. cc }

  pub best_more : (k : ℕ) → k < 5 → {b : Option Best} → BestOf ts b (higher_in (lookup name (records (table_at ts k))) (lookup name (merged_from ts (k + 1)))) → BestOf ts b (lookup name (merged_from ts k))
  best_more k h {b} r =
      let next : drop k ts ≡ table_at ts k ∷ drop (suc k) ts = drop-cons ts k [] (omega (arith, v.many)) in
      let one : k + 1 ≡ suc k = add-one k in
      let rises : Rising (records (table_at ts k)) = (good_table (table_at ts k) (v.bytes k h) (v.good k h)).rising in
      subst (λ (l : List File). BestOf ts b l)
      (sym (ap (λ (l : List (List ℕ)). lookup name (merged_of (map records l))) next
      ∙ merged_named name (records (table_at ts k)) (map records (drop (suc k) ts)) rises
      ∙ ap (λ (i : ℕ). higher_in (lookup name (records (table_at ts k))) (lookup name (merged_from ts i))) (sym one)))
      r
