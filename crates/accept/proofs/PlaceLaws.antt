-- Records at places, and where one more of them goes.
use Rattle.std.specs.Prelude.{Some, None}
use Rattle.std.specs.declared.option.Option.{Option}
use Prim.Native.Nat.{ℕ, zero, suc, ◌+◌, ◌≤◌}
use mathlib.Core.List.{List, [], ◌∷◌, ◌++◌, append-nil}
use mathlib.Core.Path.{◌≡◌, refl, sym, ap, subst, ◌∙◌}
use mathlib.Core.Bool.{Bool, true, false, cond}
use native.Mathlib.Omega.{arith}
use lib.ListN.{length, take, drop, get_or, length-append}
use lib.Seq.{append_snoc}
use lib.Dec.{leb}
use Rattle.xdr.specs.Pad.{padded}
use Rattle.record.specs.File.{File}
use Rattle.record.specs.Outline.{word_at, fields_from, outline_from, outline_of, fields_of}
use Rattle.record.specs.declared.outline.RecordFields.{RecordFields}
use Rattle.order.specs.Order.{is_equal, compare_lists, part}
use Rattle.std.specs.declared.cmp.Ordering.{Ordering}
use Rattle.std.specs.declared.cmp.Ordering.TheVariants.{Less, Equal, Greater}
use Rattle.order.proofs.OrderLaws.{Below, equal_same, same_equal, greater_above, above_greater, below_trans}
use Rattle.record.proofs.RisingLaws.{Above, Rising}
use Rattle.table.specs.Steps.Standing.{At}
use Rattle.table.proofs.WalkLaws.{standing}
use Rattle.table.specs.Insert.{insert}
use Rattle.table.proofs.InsertLaws.{above_below, insert_greater, insert_first}
use Rattle.accept.specs.Resulting.{is_named, replacing}
use Rattle.accept.specs.Steps.Slots.{name_of, slot_by, slot_of}
use Rattle.accept.specs.Steps.Sorted.{Places}

-- a record stands at a place
abbrev pub Stood : List ℕ → ℕ → File → Type 0
Stood s at f = (rest : List File) × At s at (f ∷ rest)

outline_stop : (s : List ℕ) (at : ℕ) (g : RecordFields) → outline_of s at ≡ Some g → g.stop ≡ at + 4 + word_at s at
unfolding outline_of outline_from
outline_stop s at g e = go (leb (fields_from s (at + 4) (at + 4 + word_at s at) (at + 4 + padded (word_at s at))).past (length s)) e
  where
    go : (b : Bool) → cond b (Some (fields_from s (at + 4) (at + 4 + word_at s at) (at + 4 + padded (word_at s at)))) None ≡ Some g → g.stop ≡ at + 4 + word_at s at
    go true q = ap (λ (o : Option RecordFields). stop_of o) (sym q)
      where
        stop_of : Option RecordFields → ℕ
        stop_of (Some f) = f.stop
        stop_of None = 0
    go false q = cc

pub name_of_lem : (s : List ℕ) (at : ℕ) (f : File) → Stood s at f → name_of s at ≡ f.name
unfolding name_of
name_of_lem s at f p = let q = standing p.1 in ap (part s (at + 4)) (sym (outline_stop s at (fields_of at f) q.outline_is)) ∙ q.name_is

pub places_length : (s ps : List ℕ) (fs : List File) → Places s ps fs → length ps ≡ length fs
places_length s [] [] w = refl
places_length s [] (f ∷ fs) w = absurd w
places_length s (p ∷ ps) [] w = absurd w
places_length s (p ∷ ps) (f ∷ fs) w = ap suc (places_length s ps fs w.1)

places_at : (s ps : List ℕ) (a : List File) (x : File) (b : List File) → Places s ps (a ++ x ∷ b) → Stood s (get_or ps (length a) 0) x
places_at s [] [] x b w = absurd w
places_at s (p ∷ ps) [] x b w = w.0
places_at s [] (f ∷ a) x b w = absurd w
places_at s (p ∷ ps) (f ∷ a) x b w = places_at s ps a x b w.1

places_split : (s ps : List ℕ) (a b : List File) (at : ℕ) (f : File) → Stood s at f → Places s ps (a ++ b) → Places s (take (length a) ps ++ (at ∷ drop (length a) ps)) (a ++ f ∷ b)
places_split s ps [] b at f p w = (p, w)
places_split s [] (x ∷ a) b at f p w = absurd w
places_split s (q ∷ ps) (x ∷ a) b at f p w = (w.0, places_split s ps a b at f p w.1)

-- names that are all below another

abbrev Beneath : List File → List ℕ → Type 0
Beneath [] n = Unit {0}
Beneath (g ∷ a) n = Below g.name n × Beneath a n

beneath_last : (a : List File) (x : File) (b : List File) (n : List ℕ) → Rising (a ++ x ∷ b) → Below x.name n → Beneath (a ++ x ∷ []) n
beneath_last [] x b n r h = (h, tt)
beneath_last (g ∷ []) x b n r h = (below_trans g.name x.name n r.0 h, (h, tt))
beneath_last (g ∷ k ∷ a) x b n r h = let q = beneath_last (k ∷ a) x b n r.1 h in (below_trans g.name k.name n r.0 q.0, q)

rising_back : (a b : List File) → Rising (a ++ b) → Rising b
rising_back [] b r = r
rising_back (g ∷ a) b r = rising_back a b r.1

insert_split : (f : File) (a b : List File) → Beneath a f.name → Above f.name b → insert replacing f (a ++ b) ≡ a ++ f ∷ b
insert_split f [] b h k = insert_first replacing f b k
insert_split f (g ∷ a) b h k = insert_greater replacing f g (a ++ b) (above_greater g.name f.name h.0) ∙ ap (λ (l : List File). g ∷ l) (insert_split f a b h.1 k)

named_above : (n : List ℕ) (b : List File) → Above n b → Rising b → is_named n b ≡ false
named_above n [] a r = refl
named_above n (g ∷ b) a r = ap (λ (o : Ordering). cond (is_equal o) true (is_named n b)) a ∙ named_above n b (above_below n g.name b a r.0) r.1

named_split : (n : List ℕ) (a b : List File) → Beneath a n → Above n b → Rising b → is_named n (a ++ b) ≡ false
named_split n [] b h k r = named_above n b k r
named_split n (g ∷ a) b h k r = ap (λ (o : Ordering). cond (is_equal o) true (is_named n (a ++ b))) (above_greater g.name n h.0) ∙ named_split n a b h.1 k r

named_there : (n : List ℕ) (a : List File) (x : File) (b : List File) → x.name ≡ n → is_named n (a ++ x ∷ b) ≡ true
named_there n [] x b e = ap (λ (o : Ordering). cond (is_equal o) true (is_named n b)) (ap (compare_lists n) e ∙ same_equal n)
named_there n (g ∷ a) x b e = go (is_equal (compare_lists n g.name)) (named_there n a x b e)
  where
    go : (t : Bool) → is_named n (a ++ x ∷ b) ≡ true → cond t true (is_named n (a ++ x ∷ b)) ≡ true
    go true ih = refl
    go false ih = ih

-- a list by its last element
record Last (l : List File) (n : ℕ) : Type 0 where
  front : List File
  end : File
  is : l ≡ front ++ end ∷ []
  counted : length front ≡ n

last_of : (l : List File) (n : ℕ) → length l ≡ suc n → Last l n
last_of [] n e = absurd (omega arith)
last_of (x ∷ []) n e = record { front = []; end = x; is = refl; counted = omega arith }
last_of (x ∷ y ∷ l) zero e = absurd (omega arith)
last_of (x ∷ y ∷ l) (suc n) e =
    let q = last_of (y ∷ l) n (omega arith) in
    record { front = x ∷ q.front; end = q.end; is = ap (λ (k : List File). x ∷ k) q.is; counted = ap suc q.counted }

-- what the slot of a record among others tells
module _ (s ps : List ℕ) (fs : List File) (f : File) where
  pub record Fits (j : ℕ) : Type 0 where
    pub front : List File
    pub back : List File
    pub whole : front ++ back ≡ fs
    pub counted : length front ≡ j
    pub beneath : Beneath front f.name
    pub above : Above f.name back

  abbrev pub SlotTold : Option ℕ → Type 0
  SlotTold (Some j) = Fits j
  SlotTold None = is_named f.name fs ≡ true

  slot_told : (n : ℕ) (a b : List File) → a ++ b ≡ fs → length a ≡ n → Places s ps fs → Rising fs → Above f.name b → SlotTold (slot_of s ps n f.name)
  unfolding slot_of
  slot_told zero [] b e h w r k = record { front = []; back = b; whole = e; counted = refl; beneath = tt; above = k }
  slot_told zero (x ∷ a) b e h w r k = absurd (omega arith)
  slot_told (suc n) a b e h w r k = go (compare_lists (name_of s (get_or ps n 0)) f.name) refl (λ x y u v z. slot_told n x y u v w r z)
    where
      l : Last a n
      l = last_of a n h

      split : l.front ++ l.end ∷ b ≡ fs
      split = sym (append_snoc l.front l.end b) ∙ ap (λ (u : List File). u ++ b) (sym l.is) ∙ e

      there : name_of s (get_or ps n 0) ≡ l.end.name
      there =
          ap (λ (i : ℕ). name_of s (get_or ps i 0)) (sym l.counted)
          ∙ name_of_lem s (get_or ps (length l.front) 0) l.end (places_at s ps l.front l.end b (subst (Places s ps) (sym split) w))

      rising : Rising (l.front ++ l.end ∷ b)
      rising = subst Rising (sym split) r

      go : (o : Ordering) → compare_lists (name_of s (get_or ps n 0)) f.name ≡ o
          → ((x y : List File) → x ++ y ≡ fs → length x ≡ n → Above f.name y → SlotTold (slot_of s ps n f.name)) → SlotTold (slot_by o n (slot_of s ps n f.name))
      go Less q further = record {
        front = a;
        back = b;
        whole = e;
        counted = h;
        beneath = subst (λ (u : List File). Beneath u f.name) (sym l.is) (beneath_last l.front l.end b f.name rising (ap (λ (x : List ℕ). compare_lists x f.name) (sym there) ∙ q));
        above = k;
      }
      go Equal q further =
          ap (is_named f.name) (sym split)
          ∙ named_there f.name l.front l.end b (equal_same l.end.name f.name (ap (λ (x : List ℕ). compare_lists x f.name) (sym there) ∙ q))
      go Greater q further =
          further l.front (l.end ∷ b) split l.counted (greater_above l.end.name f.name (ap (λ (x : List ℕ). compare_lists x f.name) (sym there) ∙ q))

  module _ (at : ℕ) (p : Stood s at f) (w : Places s ps fs) (r : Rising fs) where
    told : SlotTold (slot_of s ps (length ps) (name_of s at))
    told =
        subst (λ (n : List ℕ). SlotTold (slot_of s ps (length ps) n)) (sym (name_of_lem s at f p))
        (slot_told (length ps) fs [] (append-nil fs) (sym (places_length s ps fs w)) w r tt)

    -- by the answer that was given

    pub slot_taken : {x : Option ℕ} → x ≡ slot_of s ps (length ps) (name_of s at) → x ≡ None → is_named f.name fs ≡ true
    slot_taken e q = subst SlotTold (sym e ∙ q) told

    module _ {x : Option ℕ} {j : ℕ} (e : x ≡ slot_of s ps (length ps) (name_of s at)) (q : x ≡ Some j) where
      free : Fits j
      free = subst SlotTold (sym e ∙ q) told

      pub free_inside : j ≤ length ps
      free_inside = omega (arith, free.counted, places_length s ps fs w, ap length free.whole, length-append free.front free.back)

      pub free_new : is_named f.name fs ≡ false
      free_new =
          ap (is_named f.name) (sym free.whole)
          ∙ named_split f.name free.front free.back free.beneath free.above (rising_back free.front free.back (subst Rising (sym free.whole) r))

      pub free_placed : Places s (take j ps ++ (at ∷ drop j ps)) (insert replacing f fs)
      free_placed =
          subst (λ (l : List File). Places s (take j ps ++ (at ∷ drop j ps)) l) (sym (insert_split f free.front free.back free.beneath free.above) ∙ ap (insert replacing f) free.whole)
          (subst (λ (n : ℕ). Places s (take n ps ++ (at ∷ drop n ps)) (free.front ++ f ∷ free.back)) free.counted
          (places_split s ps free.front free.back at f p (subst (Places s ps) (sym free.whole) w)))
