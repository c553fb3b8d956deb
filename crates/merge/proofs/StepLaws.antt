-- What the next step of a merge takes, where records of both tables are left: the head of what is merged of them, and where the rest stands.
use Rattle.std.specs.Prelude.{Some, None}
use Rattle.std.specs.declared.option.Option.{Option}
use Prim.Native.Nat.{ℕ, ◌+◌, ◌≤◌, ◌<◌}
use mathlib.Core.List.{List, [], ◌∷◌}
use mathlib.Core.Path.{◌≡◌, refl, sym, ap, ◌∙◌}
use native.Mathlib.Omega.{arith}
use lib.ListN.{length}
use Rattle.xdr.specs.Format.{encode}
use Rattle.record.specs.File.{File, file}
use Rattle.record.specs.Outline.{fields_of}
use Rattle.order.specs.Order.{part}
use Rattle.std.specs.declared.cmp.Ordering.{Ordering}
use Rattle.std.specs.declared.cmp.Ordering.TheVariants.{Less, Equal, Greater}
use Rattle.table.specs.Newest.{compare_files, compare_at}
use Rattle.table.specs.Steps.Standing.{At}
use Rattle.table.specs.declared.side.Side.{Side}
use Rattle.table.proofs.WalkLaws.{Standing, standing, compared_there}
use Rattle.table.proofs.UnionLaws.{union, union_equal, union_right, left_first, right_first}
use Rattle.table.proofs.SideLaws.{shows_at, Told, told_none, told_left, told_right, told_both, told}
use Rattle.merge.specs.Merged.{higher_by, higher}
use Rattle.merge.specs.Steps.Next.{from_left, from_right, higher_step, higher_of, next_by, next_of, step_bytes}
use Rattle.merge.specs.declared.next.Pick.{Pick}

-- with fs and gs to come, a step takes their first record in order
pub record Took (a : List ℕ) (fs : List File) (b : List ℕ) (gs : List File) (sum : ℕ) (s : Pick) : Type 0 where
  pub head : File
  pub lefts : List File
  pub rights : List File
  pub merges : union higher fs gs ≡ head ∷ union higher lefts rights
  pub bytes_are : step_bytes a b s ≡ encode file head
  pub sized : s.end ≡ s.start + length (encode file head)
  pub some : 0 < length (encode file head)
  pub left : At a s.i lefts
  pub right : At b s.j rights
  pub grows : sum + length (encode file head) ≤ s.i + s.j

abbrev pub Steps : List ℕ → ℕ → List File → List ℕ → ℕ → List File → Option Pick → Type 0
Steps a i fs b j gs None = union higher fs gs ≡ []
Steps a i fs b j gs (Some s) = Took a fs b gs (i + j) s

-- the record f at a place of one of the tables, which heads what is merged, is taken
taking : {a b : List ℕ} {sum : ℕ} {f : File} {fs gs ls rs ms : List File} {t : List ℕ} {at : ℕ} (s : Pick) → Standing t at f ms → union higher fs gs ≡ f ∷ union higher ls rs → step_bytes a b s ≡ part t at (fields_of at f).past
    → s.start ≡ at → s.end ≡ (fields_of at f).past → At a s.i ls → At b s.j rs → sum + (fields_of at f).past ≤ s.i + s.j + at → Took a fs b gs sum s
taking {f = f} {ls = ls} {rs = rs} s p m e h k u w l =
    record {
      head = f;
      lefts = ls;
      rights = rs;
      merges = m;
      bytes_are = e ∙ p.bytes_are;
      sized = omega (arith, p.sized);
      some = omega (arith, p.sized);
      left = u;
      right = w;
      grows = omega (arith, p.sized);
    }

module _ {a : List ℕ} {i : ℕ} {b : List ℕ} {j : ℕ} where
  -- it stands in the first table
  takes_left : {f : File} {fs gs : List File} (rs : List File) (y : ℕ) → At a i (f ∷ fs) → At b y rs → j ≤ y → union higher (f ∷ fs) gs ≡ f ∷ union higher fs rs
      → Took a (f ∷ fs) b gs (i + j) (from_left i (fields_of i f).past y)
  takes_left rs y u w h m = let p = standing u in taking _ p m refl refl refl p.next w (omega arith)

  -- it stands in the second
  takes_right : {g : File} {fs gs : List File} (ls : List File) (x : ℕ) → At a x ls → At b j (g ∷ gs) → i ≤ x → union higher fs (g ∷ gs) ≡ g ∷ union higher ls gs
      → Took a fs b (g ∷ gs) (i + j) (from_right j (fields_of j g).past x)
  takes_right ls x u w h m = let p = standing w in taking _ p m refl refl refl u p.next (omega arith)

  takes : {fs gs : List File} {t : Option Side} → Told i j fs gs t → At a i fs → At b j gs → Steps a i fs b j gs (next_by (higher_of a i b j) i j t)
  takes told_none u w = union_right higher []
  takes (told_left f fs gs h) u w = takes_left gs j u w (omega arith) (left_first higher f fs gs h)
  takes (told_right g fs gs h) u w = takes_right fs i u w (omega arith) (right_first higher g fs gs h)
  takes (told_both f g fs gs e) u w = go (compare_at a (fields_of i f) b (fields_of j g)) (compared_there u w)
    where
      first : (o : Ordering) → o ≡ compare_files f g → union higher (f ∷ fs) (g ∷ gs) ≡ higher_by o f g ∷ union higher fs gs
      first o q = union_equal higher f g fs gs e ∙ ap (λ (p : Ordering). higher_by p f g ∷ union higher fs gs) (sym q)

      go : (o : Ordering) → o ≡ compare_files f g → Took a (f ∷ fs) b (g ∷ gs) (i + j) (higher_step o i (fields_of i f).past j (fields_of j g).past)
      go Less q = takes_right fs (fields_of i f).past (standing u).next w (omega (arith, (standing u).sized)) (first Less q)
      go Equal q = takes_left gs (fields_of j g).past u (standing w).next (omega (arith, (standing w).sized)) (first Equal q)
      go Greater q = takes_left gs (fields_of j g).past u (standing w).next (omega (arith, (standing w).sized)) (first Greater q)

  -- the next step, whatever is left
  pub steps : (fs gs : List File) → At a i fs → At b j gs → Steps a i fs b j gs (next_of a i b j)
  unfolding next_of
  steps fs gs u w = takes (told (shows_at fs u) (shows_at gs w)) u w
