-- What the next step takes, where records of the message and of the old table are left.
use Rattle.std.specs.Prelude.{Some, None}
use Rattle.std.specs.declared.option.Option.{Option}
use Prim.Native.Nat.{ℕ, ◌+◌, ◌≤◌, ◌<◌}
use mathlib.Core.List.{List, [], ◌∷◌}
use mathlib.Core.Path.{◌≡◌, sym, subst}
use native.Mathlib.Omega.{arith}
use native.Mathlib.Decide.{dec_lt}
use native.Mathlib.Numerals.{add-one}
use borrow.Author.Tests.{lt-ltb, le-ltb}
use lib.ListN.{length, drop, drop_of_length-le}
use lib.Seq.{drop-cons}
use Rattle.xdr.specs.Format.{encode}
use Rattle.record.specs.File.{File, file}
use Rattle.record.specs.Outline.{outline_of, fields_of}
use Rattle.table.specs.Newest.{bit}
use Rattle.table.specs.Steps.Standing.{At}
use Rattle.table.specs.declared.side.Side.{Side}
use Rattle.table.proofs.WalkLaws.{at_last, standing}
use Rattle.table.proofs.UnionLaws.{union, union_equal, union_right, left_first, right_first}
use Rattle.table.proofs.SideLaws.{Shows, shows_first, shows_at, Told, told_none, told_left, told_right, told_both, told}
use Rattle.merge.specs.Steps.Next.{from_left, next_by, step_bytes}
use Rattle.merge.specs.declared.next.Pick.{Pick}
use Rattle.accept.specs.Resulting.{replacing}
use Rattle.accept.specs.Steps.Next.{place_of, replacing_step, next_over}
use Rattle.accept.specs.Steps.Sorted.{Places}
use Rattle.accept.proofs.PlaceLaws.{Stood}

-- what is left of the places

record First (s places : List ℕ) (i : ℕ) (f : File) (fs : List File) : Type 0 where
  some : i < length places
  stood : Stood s (place_of s places i) f
  others : Places s (drop (i + 1) places) fs

places_first : (s places : List ℕ) (i : ℕ) (f : File) (fs : List File) → Places s (drop i places) (f ∷ fs) → First s places i f fs
places_first s places i f fs w = go (dec_lt i (length places))
  where
    go : Dec (i < length places) → First s places i f fs
    go (yes h) =
        let q = subst (λ (l : List ℕ). Places s l (f ∷ fs)) (drop-cons places i 0 h) w in
        record { some = h; stood = rw (lt-ltb i (length places) h) q.0; others = subst (λ (n : ℕ). Places s (drop n places) fs) (sym (add-one i)) q.1 }
    go (no h) = absurd (subst (λ (l : List ℕ). Places s l (f ∷ fs)) (drop_of_length-le places {i = i} (omega arith)) w)

places_end : (s places : List ℕ) (i : ℕ) → Places s (drop i places) [] → length places ≤ i
places_end s places i w = go (dec_lt i (length places))
  where
    go : Dec (i < length places) → length places ≤ i
    go (yes h) = absurd (subst (λ (l : List ℕ). Places s l []) (drop-cons places i 0 h) w)
    go (no h) = omega arith

-- the outline at its place shows the first record that is left
shows_place : (s places : List ℕ) (i : ℕ) (fs : List File) → Places s (drop i places) fs → Shows s (place_of s places i) fs (outline_of s (place_of s places i))
shows_place s places i [] w = rw (le-ltb i (length places) (places_end s places i w)) (shows_at [] (at_last s))
shows_place s places i (f ∷ fs) w =
    let q = standing (places_first s places i f fs w).stood.1 in
    let at : ℕ = place_of s places i in
    subst (Shows s at (f ∷ fs)) (sym q.outline_is) (shows_first f fs q.name_is)

-- with fs and gs to come, a step takes the first record of both, of one name that of fs
pub record Took (s places : List ℕ) (i : ℕ) (fs : List File) (old : List ℕ) (j : ℕ) (gs : List File) (t : Pick) : Type 0 where
  pub head : File
  pub lefts : List File
  pub rights : List File
  pub is : union replacing fs gs ≡ head ∷ union replacing lefts rights
  pub bytes_are : step_bytes s old t ≡ encode file head
  pub sized : t.end ≡ t.start + length (encode file head)
  pub some : t.start < t.end
  pub left : Places s (drop (i + bit t.left) places) lefts
  pub inside : i + bit t.left ≤ length places
  pub right : At old t.j rights
  pub grows : i + j < i + bit t.left + t.j

abbrev pub Steps : List ℕ → List ℕ → ℕ → List File → List ℕ → ℕ → List File → Option Pick → Type 0
Steps s places i fs old j gs None = union replacing fs gs ≡ []
Steps s places i fs old j gs (Some t) = Took s places i fs old j gs t

module _ (s places : List ℕ) (i : ℕ) (old : List ℕ) (j : ℕ) where
  -- the message's record
  takes_sent : {f : File} {fs gs : List File} (rs : List File) (y : ℕ) → First s places i f fs → At old y rs → j ≤ y → union replacing (f ∷ fs) gs ≡ f ∷ union replacing fs rs
      → Took s places i (f ∷ fs) old j gs (from_left (place_of s places i) (fields_of (place_of s places i) f).past y)
  takes_sent {f} {fs} {gs} rs y p w h m =
      let q = standing p.stood.1 in
      record { head = f; lefts = fs; rights = rs; is = m; bytes_are = q.bytes_are; sized = q.sized; some = omega (arith, q.sized); left = p.others; inside = omega (arith, p.some); right = w; grows = omega arith }

  takes : {fs gs : List File} {t : Option Side} → Told (place_of s places i) j fs gs t → i ≤ length places → Places s (drop i places) fs → At old j gs
      → Steps s places i fs old j gs (next_by (replacing_step (place_of s places i)) (place_of s places i) j t)
  takes told_none h u w = union_right replacing []
  takes (told_left f fs gs a) h u w = takes_sent gs j (places_first s places i f fs u) w (omega arith) (left_first replacing f fs gs a)
  takes (told_both f g fs gs e) h u w = takes_sent gs (fields_of j g).past (places_first s places i f fs u) (standing w).next (omega (arith, (standing w).sized)) (union_equal replacing f g fs gs e)
  takes (told_right g fs gs a) h u w =
      let q = standing w in
      let same : i ≡ i + 0 = omega arith in
      record { head = g; lefts = fs; rights = gs; is = right_first replacing g fs gs a; bytes_are = q.bytes_are; sized = q.sized; some = omega (arith, q.sized); left = subst (λ (k : ℕ). Places s (drop k places) fs) same u; inside = omega arith; right = q.next; grows = omega (arith, q.sized) }

  -- the next step, whatever is left
  pub steps : (fs gs : List File) → i ≤ length places → Places s (drop i places) fs → At old j gs → Steps s places i fs old j gs (next_over s (place_of s places i) old j)
  unfolding next_over
  steps fs gs h u w = takes (told (shows_place s places i fs u) (shows_at gs w)) h u w
