-- The order of records: that of their keys, equal only of a record and itself.
use Prim.Native.Nat.{ℕ, ◌^◌, ◌<◌}
use mathlib.Core.List.{List, ◌++◌}
use mathlib.Core.Path.{◌≡◌, refl, sym, ap, ◌∙◌}
use lib.Signed.{◌<ℤ◌}
use Rattle.xdr.specs.Format.{encode, Valid}
use Rattle.record.specs.File.{File, name, file, from_flags}
use Rattle.record.specs.Modified.{signed, raised}
use Rattle.record.proofs.FileLaws.{split_encoding, same_file}
use Rattle.record.proofs.SignedOrder.{raised_order}
use Rattle.order.specs.Order.{compare_lists}
use Rattle.table.specs.Newest.{key, compare_files}
use Rattle.std.specs.declared.cmp.Ordering.TheVariants.{Less, Equal}
use Rattle.order.proofs.OrderLaws.{number_less, heads, reversed, compare_reversed, equal_same, below_trans, same_equal, below_irrefl, below_asym, at_most_same, at_most_trans}

pub by_key : (f g : File) → compare_files f g ≡ compare_lists (key f) (key g)
unfolding compare_files
by_key f g = refl

-- Modified decides as the signed number that it is
pub lower_modified : (f g : File) → f.modified < 2 ^ 64 → g.modified < 2 ^ 64 → signed f.modified <ℤ signed g.modified → compare_files f g ≡ Less
unfolding compare_files
lower_modified f g h k l =
    let less = (raised_order f.modified g.modified h k).1 l in
    heads (raised f.modified) (raised g.modified) _ _ ∙ rw (number_less (raised f.modified) (raised g.modified) less) refl

-- two records of one name that tie throughout are equal

pub same_key : (f g : File) → Valid file f → Valid file g → f.name ≡ g.name → key f ≡ key g → f ≡ g
same_key f g v w n k =
    let rest : from_flags f ≡ from_flags g = cc in
    same_file f g v w (split_encoding f ∙ ap (λ (l : List ℕ). encode name l ++ from_flags f) n ∙ ap (λ (l : List ℕ). encode name g.name ++ l) rest ∙ sym (split_encoding g))

pub tie_equal : (f g : File) → Valid file f → Valid file g → f.name ≡ g.name → compare_files f g ≡ Equal → f ≡ g
tie_equal f g v w n e = same_key f g v w n (equal_same (key f) (key g) (sym (by_key f g) ∙ e))

pub newest_reversed : (f g : File) → compare_files g f ≡ reversed (compare_files f g)
unfolding compare_files
newest_reversed f g = compare_reversed (key f) (key g)

pub newest_trans : (f g h : File) → compare_files f g ≡ Less → compare_files g h ≡ Less → compare_files f h ≡ Less
unfolding compare_files
newest_trans f g h p q = below_trans (key f) (key g) (key h) p q

pub newest_same : (f : File) → compare_files f f ≡ Equal
unfolding compare_files
newest_same f = same_equal (key f)

-- a record that is at least as high as another: not below it

pub at_least_itself : (f : File) → compare_files f f ≡ Less → ⊥
unfolding compare_files
at_least_itself f h = below_irrefl (key f) h

pub at_least_reversed : (f g : File) → compare_files f g ≡ Less → compare_files g f ≡ Less → ⊥
unfolding compare_files
at_least_reversed f g h k = below_asym (key f) (key g) h k

pub at_least_trans : (f g h : File) → (compare_files g f ≡ Less → ⊥) → (compare_files h g ≡ Less → ⊥) → compare_files h f ≡ Less → ⊥
unfolding compare_files
at_least_trans f g h p q = at_most_trans (key f) (key g) (key h) p q

pub at_least_same : (f g : File) → Valid file f → Valid file g → f.name ≡ g.name → (compare_files f g ≡ Less → ⊥) → (compare_files g f ≡ Less → ⊥) → f ≡ g
unfolding compare_files
at_least_same f g v w n p q = same_key f g v w n (at_most_same (key f) (key g) q p)
