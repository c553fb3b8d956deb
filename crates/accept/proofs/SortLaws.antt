-- Putting the records of an array in order, one after another: what the loop keeps, and what ends it.
use Rattle.std.specs.Prelude.{Some, None}
use Rattle.std.specs.declared.option.Option.{Option}
use Prim.Native.Nat.{ℕ, ◌+◌, ◌≤◌, ◌<◌}
use mathlib.Core.List.{List, [], ◌∷◌, ◌++◌, append-nil}
use mathlib.Core.Path.{◌≡◌, refl, sym, ap, subst, ◌∙◌}
use mathlib.Core.Bool.{Bool, true, false, cond}
use native.Mathlib.Omega.{arith}
use native.Mathlib.Nat.{add_assoc}
use lib.ListN.{length, take, drop, length-append}
use lib.Seq.{append_snoc}
use Rattle.xdr.specs.Format.{encode}
use Rattle.record.specs.File.{File, file}
use Rattle.record.specs.Outline.{outline_of, fields_of}
use Rattle.record.specs.declared.outline.RecordFields.{RecordFields}
use Rattle.table.specs.Limits.{records_limit}
use Rattle.order.specs.Order.{is_equal, compare_lists}
use Rattle.table.specs.Table.{records}
use Rattle.xdr.specs.Filling.{Outcome, refuses}
use Rattle.std.specs.declared.cmp.Ordering.{Ordering}
use Rattle.std.specs.declared.cmp.Ordering.TheVariants.{Less, Equal, Greater}
use Rattle.order.proofs.OrderLaws.{reversed, compare_reversed}
use Rattle.record.proofs.RisingLaws.{Rising}
use Rattle.table.specs.Steps.Standing.{At}
use Rattle.table.proofs.WalkLaws.{array_start, standing, Headed, at_whole, at_short}
use Rattle.table.specs.Insert.{insert}
use Rattle.table.proofs.InsertLaws.{insert_rising}
use Rattle.accept.specs.Resulting.{is_named, replacing, by_name}
use Rattle.accept.specs.Accepting.{unrepeated}
use Rattle.accept.specs.Steps.Slots.{name_of, slot_of}
use Rattle.accept.specs.Steps.Sorted.{IsArray, Places, Distinct, SortedPlaces}
use Rattle.accept.proofs.InsertLaws.{replacing_one, named_swap, insert_named, by_name_more, by_name_none}
use Rattle.accept.proofs.PlaceLaws.{slot_taken, free_inside, free_new, free_placed}

-- one record more at the end

by_name_last : (fs : List File) (f : File) (l : List File) → by_name (fs ++ f ∷ []) l ≡ insert replacing f (by_name fs l)
by_name_last [] f l = by_name_more f [] l ∙ by_name_none (insert replacing f l) ∙ ap (insert replacing f) (sym (by_name_none l))
by_name_last (g ∷ fs) f l = by_name_more g (fs ++ f ∷ []) l ∙ by_name_last fs f (insert replacing g l) ∙ ap (insert replacing f) (sym (by_name_more g fs l))

named_last : (n : List ℕ) (l : List File) (f : File) → is_named n (l ++ f ∷ []) ≡ cond (is_equal (compare_lists n f.name)) true (is_named n l)
named_last n [] f = refl
named_last n (g ∷ l) f = ap (cond (is_equal (compare_lists n g.name)) true) (named_last n l f) ∙ named_swap (is_equal (compare_lists n g.name)) (is_equal (compare_lists n f.name)) (is_named n l)

reversed_equal : (o : Ordering) → is_equal (reversed o) ≡ is_equal o
reversed_equal Less = refl
reversed_equal Equal = refl
reversed_equal Greater = refl

neither : (a b : Bool) → cond a true b ≡ false → (a ≡ false) × (b ≡ false)
neither true b e = cc
neither false b e = (refl, e)

distinct_last : (l : List File) (f : File) → Distinct l → is_named f.name l ≡ false → Distinct (l ++ f ∷ [])
distinct_last [] f d e = (refl, tt)
distinct_last (g ∷ l) f d e =
    let q = neither (is_equal (compare_lists f.name g.name)) (is_named f.name l) e in
    let other : is_equal (compare_lists g.name f.name) ≡ false = ap is_equal (compare_reversed f.name g.name) ∙ reversed_equal (compare_lists f.name g.name) ∙ q.0 in
    (named_last g.name l f ∙ rw (other, d.0) refl, distinct_last l f d.1 q.1)

-- so far the first n records are in order
pub record Sorting (s places : List ℕ) (at n : ℕ) : Type 0 where
  pub done : List File
  pub rest : List File
  pub all : done ++ rest ≡ records s
  pub here : At s at rest
  pub counted : length done ≡ n
  pub standing : Places s (take n places) (by_name done [])
  pub rising : Rising (by_name done [])
  pub distinct : Distinct done
  pub before : List File
  pub names : (x : List ℕ) → is_named x (by_name done []) ≡ is_named x before
  pub names_done : (x : List ℕ) → is_named x (by_name done []) ≡ is_named x done
  pub left : (base : ℕ) (next : Outcome) → unrepeated [] (base + 4) (records s) next ≡ unrepeated before (base + at) rest next

pub sorting_none : (s places : List ℕ) → IsArray s → Sorting s places 4 0
sorting_none s places a =
    record {
      done = [];
      rest = records s;
      all = refl;
      here = array_start a.is a.valid;
      counted = refl;
      standing = subst (Places s []) (sym (by_name_none [])) tt;
      rising = subst Rising (sym (by_name_none [])) tt;
      distinct = tt;
      before = [];
      names = λ x. ap (is_named x) (by_name_none []);
      names_done = λ x. ap (is_named x) (by_name_none []);
      left = λ base next. refl;
    }

module _ {s places : List ℕ} {at n : ℕ} (a : IsArray s) (l : Sorting s places at n) where
  -- no record is left
  pub sorting_all : {x : Option RecordFields} → x ≡ outline_of s at → x ≡ None → SortedPlaces s (take n places)
  sorting_all e q =
      let z = at_short l.here e q in
      let whole : l.done ≡ records s = sym (append-nil l.done) ∙ ap (λ (u : List File). l.done ++ u) (sym z) ∙ l.all in
      record {
        array = a;
        standing = subst (λ (u : List File). Places s (take n places) (by_name u [])) whole l.standing;
        distinct = subst Distinct whole l.distinct;
        unrefused = λ base next. l.left base next ∙ ap (λ (u : List File). unrepeated l.before (base + at) u next) z;
      }

  module _ {x : Option RecordFields} {g : RecordFields} (e : x ≡ outline_of s at) (q : x ≡ Some g) where
    -- the next record
    nr : Headed s at l.rest g
    nr = at_whole l.here e q

    past_is : g.past ≡ at + length (encode file nr.head)
    past_is = ap (λ (h : RecordFields). h.past) nr.fields ∙ (standing nr.stands).sized

    pub sorting_grows : (at < g.past) × (g.past ≤ length s)
    sorting_grows =
        let p = standing nr.stands in
        let m : g.past ≡ (fields_of at nr.head).past = ap (λ (h : RecordFields). h.past) nr.fields in
        (omega (arith, m), subst (λ (k : ℕ). k ≤ length s) (sym m) p.next.inside)

    pub sorting_few : n < records_limit
    sorting_few =
        let k : length l.done + length l.rest ≡ length (records s) = sym (length-append l.done l.rest) ∙ ap length l.all in
        omega (arith, a.few, l.counted, ap length nr.is)

    -- its name stood before
    pub sorting_repeated : {y : Option ℕ} {ps : List ℕ} → ps ≡ take n places → y ≡ slot_of s ps (length ps) (name_of s at) → y ≡ None
        → (at ≤ length s) × ((base : ℕ) (next : Outcome) → unrepeated [] (base + 4) (records s) next ≡ refuses 13 (base + at))
    sorting_repeated {y} {ps} h u v =
        let w = slot_taken s ps (by_name l.done []) nr.head at (nr.tail, nr.stands) (subst (λ (p : List ℕ). Places s p (by_name l.done [])) (sym h) l.standing) l.rising u v in (
          l.here.inside,
          λ base next.
              l.left base next
              ∙ ap (λ (r : List File). unrepeated l.before (base + at) r next) nr.is
              ∙ ap (λ (b : Bool). cond b (refuses 13 (base + at)) (unrepeated (nr.head ∷ l.before) (base + at + length (encode file nr.head)) nr.tail next)) (sym (l.names nr.head.name) ∙ w),
        )

    module _ {y : Option ℕ} {ps : List ℕ} {j : ℕ} (h : ps ≡ take n places) (u : y ≡ slot_of s ps (length ps) (name_of s at)) (v : y ≡ Some j) where
      stands_so : Places s ps (by_name l.done [])
      stands_so = subst (λ (p : List ℕ). Places s p (by_name l.done [])) (sym h) l.standing

      pub sorting_slot : j ≤ length ps
      sorting_slot = free_inside s ps (by_name l.done []) nr.head at (nr.tail, nr.stands) stands_so l.rising u v

      new : is_named nr.head.name (by_name l.done []) ≡ false
      new = free_new s ps (by_name l.done []) nr.head at (nr.tail, nr.stands) stands_so l.rising u v

      sorted_last : by_name (l.done ++ nr.head ∷ []) [] ≡ insert replacing nr.head (by_name l.done [])
      sorted_last = by_name_last l.done nr.head []

      names_more : (x : List ℕ) {b : Bool} → is_named x (by_name l.done []) ≡ b
          → is_named x (by_name (l.done ++ nr.head ∷ []) []) ≡ cond (is_equal (compare_lists x nr.head.name)) true b
      names_more x k = ap (is_named x) sorted_last ∙ insert_named x nr.head (by_name l.done []) ∙ ap (cond (is_equal (compare_lists x nr.head.name)) true) k

      pub sorting_more : {places' : List ℕ} → take (n + 1) places' ≡ take j (take n places) ++ (at ∷ drop j (take n places)) → Sorting s places' g.past (n + 1)
      sorting_more {places'} k = record {
        done = l.done ++ nr.head ∷ [];
        rest = nr.tail;
        all = append_snoc l.done nr.head nr.tail ∙ ap (λ (r : List File). l.done ++ r) (sym nr.is) ∙ l.all;
        here = subst (λ (p : ℕ). At s p nr.tail) (sym (ap (λ (h : RecordFields). h.past) nr.fields)) (standing nr.stands).next;
        counted = length-append l.done (nr.head ∷ []) ∙ ap (λ (i : ℕ). i + 1) l.counted;
        standing =
            subst (λ (p : List ℕ). Places s p (by_name (l.done ++ nr.head ∷ []) [])) (sym (k ∙ ap (λ (p : List ℕ). take j p ++ (at ∷ drop j p)) (sym h)))
            (subst (Places s (take j ps ++ (at ∷ drop j ps))) (sym sorted_last)
            (free_placed s ps (by_name l.done []) nr.head at (nr.tail, nr.stands) stands_so l.rising u v));
        rising = subst Rising (sym sorted_last) (insert_rising replacing replacing_one nr.head (by_name l.done []) l.rising);
        distinct = distinct_last l.done nr.head l.distinct (sym (l.names_done nr.head.name) ∙ new);
        before = nr.head ∷ l.before;
        names = λ x. names_more x (l.names x);
        names_done = λ x. names_more x (l.names_done x) ∙ sym (named_last x l.done nr.head);
        left = λ base next.
            l.left base next
            ∙ ap (λ (r : List File). unrepeated l.before (base + at) r next) nr.is
            ∙ ap (λ (b : Bool). cond b (refuses 13 (base + at)) (unrepeated (nr.head ∷ l.before) (base + at + length (encode file nr.head)) nr.tail next)) (sym (l.names nr.head.name) ∙ new)
            ∙ ap (λ (p : ℕ). unrepeated (nr.head ∷ l.before) p nr.tail next) (add_assoc base at (length (encode file nr.head)) ∙ ap (λ (p : ℕ). base + p) (sym past_is));
      }
