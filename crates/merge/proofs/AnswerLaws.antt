-- What merging does, by the checks of the tables.
use Prim.Native.Nat.{ℕ}
use mathlib.Core.List.{List}
use mathlib.Core.Path.{◌≡◌, refl}
use mathlib.Core.Bool.{true, false}
use Rattle.xdr.specs.Filling.{refuses}
use Rattle.table.specs.Table.{is_good, resulting_table}
use Rattle.merge.specs.Answer.{merged_records, merge_outcome}

module _ (a b : List ℕ) where
  pub first_bad_lem : is_good a ≡ false → merge_outcome a b ≡ refuses 15 0
  unfolding merge_outcome
  first_bad_lem e = rw e refl

  pub second_bad : is_good a ≡ true → is_good b ≡ false → merge_outcome a b ≡ refuses 15 0
  unfolding merge_outcome
  second_bad e f = rw (e, f) refl

  pub both_good : is_good a ≡ true → is_good b ≡ true → merge_outcome a b ≡ resulting_table (merged_records a b)
  unfolding merge_outcome
  both_good e f = rw (e, f) refl
