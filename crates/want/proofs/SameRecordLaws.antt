-- Two records that are the same, byte for byte from Flags on.
use Prim.Native.Nat.{ℕ, ◌+◌, ◌-◌}
use mathlib.Core.List.{List, [], ◌++◌}
use mathlib.Core.Path.{◌≡◌, refl, sym, ap, subst, ◌∙◌}
use mathlib.Core.Bool.{Bool, true, false}
use native.Mathlib.Omega.{arith}
use lib.ListN.{take, drop}
use lib.Seq.{drop-drop, take-add}
use Rattle.xdr.specs.Format.{encode}
use Rattle.xdr.specs.Number.{digits}
use Rattle.record.specs.File.{File, from_flags}
use Rattle.record.specs.Outline.{fields_of}
use Rattle.record.specs.declared.outline.RecordFields.{RecordFields}
use Rattle.record.proofs.FileLaws.{encoding_rest}
use Rattle.order.specs.Order.{is_equal, compare_lists, part}
use Rattle.std.specs.declared.cmp.Ordering.{Ordering}
use Rattle.std.specs.declared.cmp.Ordering.TheVariants.{Equal}
use Rattle.order.proofs.OrderLaws.{same_equal}
use Rattle.order.proofs.SameLaws.{is_same_lem}
use Rattle.table.specs.Newest.{key_of, key_at, compare_at}
use Rattle.table.specs.Steps.Standing.{bytes_of}
use Rattle.want.specs.Steps.Head.{Stood, AlikeFields}
use Rattle.want.proofs.FieldLaws.{within}

pub never : {P : Type 0} → false ≡ true → P
never e = cc

-- the bytes of the numbers of a record
abbrev numbers_of : (flags modified version blocks : ℕ) → List ℕ
numbers_of f m v n = digits 4 f ++ (digits 8 m ++ (digits 4 v ++ digits 4 n))

numbers_first : (f : File) (l : List ℕ) → take 20 (from_flags f ++ l) ≡ numbers_of f.flags f.modified f.version (fields_of 0 f).blocks
unfolding encode
numbers_first f l = refl

module _ {t : List ℕ} {f : RecordFields} (w : Stood t f) where
  numbers_are : take 20 (drop f.rest t) ≡ numbers_of f.flags f.modified f.version f.blocks
  numbers_are =
      subst (λ (x : RecordFields). take 20 (drop x.rest t) ≡ numbers_of x.flags x.modified x.version x.blocks) (sym w.fields_are)
      (ap (take 20) (encoding_rest w.head t w.place (bytes_of w.tail) w.here.here) ∙ numbers_first w.head (bytes_of w.tail))

  -- the bytes from Flags on: the numbers, and the blocks
  rest_bytes : part t f.rest f.past ≡ numbers_of f.flags f.modified f.version f.blocks ++ part t f.first f.past
  rest_bytes =
      let i = within w in
      let whole : f.past - f.rest ≡ 20 + (f.past - f.first) = omega (arith, i.rested, i.listed) in
      ap (λ (k : ℕ). take k (drop f.rest t)) whole
      ∙ take-add 20 (f.past - f.first) (drop f.rest t)
      ∙ ap (λ (l : List ℕ). l ++ take (f.past - f.first) (drop 20 (drop f.rest t))) numbers_are
      ∙ ap (λ (l : List ℕ). numbers_of f.flags f.modified f.version f.blocks ++ take (f.past - f.first) l) (drop-drop 20 f.rest t ∙ ap (λ (k : ℕ). drop k t) (sym i.rested))

  -- none
  no_blocks : f.blocks ≡ 0 → part t f.first f.past ≡ []
  no_blocks e = let i = within w in let none : f.past - f.first ≡ 0 = omega (arith, i.sized, e) in ap (λ (k : ℕ). take k (drop f.first t)) none

module _ {a : List ℕ} {f : RecordFields} {b : List ℕ} {g : RecordFields} (p : Stood a f) (q : Stood b g) (w : AlikeFields f g) where
  keys : part a f.first f.past ≡ part b g.first g.past → key_at a f ≡ key_at b g
  keys e =
      ap (λ (l : List ℕ). key_of f.modified f.version f.flags l) (rest_bytes p ∙ ap (λ (l : List ℕ). numbers_of f.flags f.modified f.version f.blocks ++ l) e)
      ∙ ap (λ (n : ℕ). key_of n f.version f.flags (numbers_of f.flags n f.version f.blocks ++ part b g.first g.past)) w.modified_same
      ∙ ap (λ (n : ℕ). key_of g.modified n f.flags (numbers_of f.flags g.modified n f.blocks ++ part b g.first g.past)) w.version_same
      ∙ ap (λ (n : ℕ). key_of g.modified g.version n (numbers_of n g.modified g.version f.blocks ++ part b g.first g.past)) w.flags_same
      ∙ ap (λ (n : ℕ). key_of g.modified g.version g.flags (numbers_of g.flags g.modified g.version n ++ part b g.first g.past)) w.blocks_same
      ∙ ap (λ (l : List ℕ). key_of g.modified g.version g.flags l) (sym (rest_bytes q))

  equal_keys : part a f.first f.past ≡ part b g.first g.past → compare_at a f b g ≡ Equal
  unfolding compare_at
  equal_keys e = ap (λ (l : List ℕ). compare_lists l (key_at b g)) (keys e) ∙ same_equal (key_at b g)

  pub same_empty : f.blocks ≡ 0 → compare_at a f b g ≡ Equal
  same_empty e = equal_keys (no_blocks p e ∙ sym (no_blocks q (sym w.blocks_same ∙ e)))

  -- by the answers that were given
  pub told_same : {x y : List ℕ} {o : Ordering} {r : Bool} → x ≡ part a f.first f.past → y ≡ part b g.first g.past → o ≡ compare_lists x y → r ≡ is_equal o → r ≡ true → compare_at a f b g ≡ Equal
  told_same {x} {y} s t c d e = equal_keys (sym s ∙ is_same_lem x y (ap is_equal (sym c) ∙ sym d ∙ e) ∙ t)
