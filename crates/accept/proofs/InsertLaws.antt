-- A record put among others in place of that of its name: which names and how many records there then are.
use Prim.Native.Nat.{ℕ, suc, ◌+◌, ◌≤◌}
use mathlib.Core.List.{List, [], ◌∷◌}
use mathlib.Core.Path.{◌≡◌, refl, sym, ap, ◌∙◌}
use mathlib.Core.Logic.{◌⊎◌, inl}
use mathlib.Core.Bool.{Bool, true, false, cond}
use native.Mathlib.Omega.{arith}
use lib.ListN.{length, length-append}
use Rattle.xdr.specs.Format.{encode}
use Rattle.record.specs.File.{File, file}
use Rattle.order.specs.Order.{is_equal, compare_lists}
use Rattle.std.specs.declared.cmp.Ordering.{Ordering}
use Rattle.std.specs.declared.cmp.Ordering.TheVariants.{Less, Equal, Greater}
use Rattle.order.proofs.OrderLaws.{equal_same}
use Rattle.table.specs.Steps.Standing.{bytes_of}
use Rattle.table.specs.Insert.{placed, insert}
use Rattle.accept.specs.Resulting.{is_named, replacing, by_name}

pub replacing_one : (f g : File) → (replacing f g ≡ f) ⊎ (replacing f g ≡ g)
replacing_one f g = inl refl

-- which names there are

pub named_swap : (a b c : Bool) → cond a true (cond b true c) ≡ cond b true (cond a true c)
named_swap true true c = refl
named_swap true false c = refl
named_swap false b c = refl

named_twice : (a c : Bool) → cond a true (cond a true c) ≡ cond a true c
named_twice true c = refl
named_twice false c = refl

pub insert_named : (n : List ℕ) (f : File) (l : List File) → is_named n (insert replacing f l) ≡ is_named n (f ∷ l)
insert_named n f [] = refl
insert_named n f (g ∷ l) = go (compare_lists f.name g.name) refl (insert_named n f l)
  where
    go : (o : Ordering) → compare_lists f.name g.name ≡ o → is_named n (insert replacing f l) ≡ is_named n (f ∷ l) → is_named n (placed replacing o f g l (insert replacing f l)) ≡ is_named n (f ∷ g ∷ l)
    go Less e ih = refl
    go Equal e ih =
        sym (ap (λ (m : List ℕ). cond (is_equal (compare_lists n f.name)) true (cond (is_equal (compare_lists n m)) true (is_named n l))) (sym (equal_same f.name g.name e))
        ∙ named_twice (is_equal (compare_lists n f.name)) (is_named n l))
    go Greater e ih =
        ap (cond (is_equal (compare_lists n g.name)) true) ih
        ∙ named_swap (is_equal (compare_lists n g.name)) (is_equal (compare_lists n f.name)) (is_named n l)

-- how many records there are, and how many bytes they have

pub insert_count : (f : File) (l : List File) → length (insert replacing f l) ≤ suc (length l)
insert_count f [] = omega arith
insert_count f (g ∷ l) = go (compare_lists f.name g.name) (insert_count f l)
  where
    go : (o : Ordering) → length (insert replacing f l) ≤ suc (length l) → length (placed replacing o f g l (insert replacing f l)) ≤ suc (suc (length l))
    go Less ih = omega arith
    go Equal ih = omega arith
    go Greater ih = omega arith

bytes_more : (f : File) (l : List File) → length (bytes_of (f ∷ l)) ≡ length (encode file f) + length (bytes_of l)
bytes_more f l = length-append (encode file f) (bytes_of l)

pub insert_size : (f : File) (l : List File) → length (bytes_of (insert replacing f l)) ≤ length (encode file f) + length (bytes_of l)
insert_size f [] = omega (arith, bytes_more f [])
insert_size f (g ∷ l) = go (compare_lists f.name g.name) (insert_size f l)
  where
    go : (o : Ordering) → length (bytes_of (insert replacing f l)) ≤ length (encode file f) + length (bytes_of l)
        → length (bytes_of (placed replacing o f g l (insert replacing f l))) ≤ length (encode file f) + length (bytes_of (g ∷ l))
    go Less ih = omega (arith, bytes_more f (g ∷ l))
    go Equal ih = omega (arith, bytes_more f l, bytes_more g l)
    go Greater ih = omega (arith, bytes_more g (insert replacing f l), bytes_more g l)

-- one record after another

pub by_name_more : (f : File) (fs l : List File) → by_name (f ∷ fs) l ≡ by_name fs (insert replacing f l)
unfolding by_name
by_name_more f fs l = refl

pub by_name_none : (l : List File) → by_name [] l ≡ l
unfolding by_name
by_name_none l = refl

pub by_name_count : (fs l : List File) → length (by_name fs l) ≤ length fs + length l
unfolding by_name
by_name_count [] l = omega arith
by_name_count (f ∷ fs) l = let h = by_name_count fs (insert replacing f l) in let k = insert_count f l in omega arith

pub by_name_size : (fs l : List File) → length (bytes_of (by_name fs l)) ≤ length (bytes_of fs) + length (bytes_of l)
unfolding by_name
by_name_size [] l = omega arith
by_name_size (f ∷ fs) l = let h = by_name_size fs (insert replacing f l) in let k = insert_size f l in omega (arith, bytes_more f fs)
