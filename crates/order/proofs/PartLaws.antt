-- A part of some bytes, where one of its ends is beyond them or before the other.
use Prim.Native.Nat.{ℕ, ◌-◌, ◌≤◌, ◌<◌}
use mathlib.Core.List.{List}
use mathlib.Core.Path.{◌≡◌, sym, ap, ◌∙◌}
use native.Mathlib.Omega.{arith}
use lib.ListN.{length, take, drop, length-drop, drop_of_length-le}
use lib.Seq.{take_all, take-nil}
use Rattle.order.specs.Order.{part}

module _ (s : List ℕ) (from to : ℕ) where
  pub part_beyond : length s < from → part s (length s) (length s) ≡ part s from to
  part_beyond h =
      let none : length s - length s ≡ 0 = omega arith in
      ap (λ (n : ℕ). take n (drop (length s) s)) none ∙ sym (ap (take (to - from)) (drop_of_length-le s {i = from} (omega arith)) ∙ take-nil (to - from))

  pub part_empty : to < from → part s from from ≡ part s from to
  part_empty h = let same : from - from ≡ to - from = omega arith in ap (λ (n : ℕ). take n (drop from s)) same

  pub part_cut : from ≤ length s → length s < to → part s from (length s) ≡ part s from to
  part_cut g h =
      let long : length (drop from s) ≡ length s - from = length-drop from s in
      take_all (length s - from) (drop from s) (omega arith) ∙ sym (take_all (to - from) (drop from s) (omega arith))
