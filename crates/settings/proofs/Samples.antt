-- Worked cases: all that may be there with carried fields, out of order above 128, 25, and 26 before 25 in one field.
use Prim.Native.Nat.{ℕ}
use mathlib.Core.List.{List, [], ◌∷◌}
use mathlib.Core.Path.{◌≡◌, refl}
use Rattle.std.specs.Prelude.{Some, None}
use Rattle.xdr.specs.Reading.{taken, refused}
use Rattle.xdr.specs.Text.{sound_up_to}
use Rattle.settings.specs.Field.{wrong, fault}
use Rattle.settings.specs.Reading.{with_field, read_from, reading}

sample : List ℕ
sample = 1 ∷ 0 ∷ 1 ∷ 4 ∷ 3 ∷ 0 ∷ 1 ∷ 114 ∷ 129 ∷ 0 ∷ 1 ∷ 120 ∷ 200 ∷ 0 ∷ 0 ∷ []

sample_read : reading sample ≡ taken (record { window = Some 4; allowance = None; repository = Some (record { start = 7; length = 1 }); note = None; carried = 8 }) 15
unfolding sample read_from fault wrong with_field sound_up_to
sample_read = refl

order_above : reading (129 ∷ 0 ∷ 0 ∷ 129 ∷ 0 ∷ 0 ∷ []) ≡ refused 26 3
unfolding read_from fault wrong with_field
order_above = refl

unknown : reading (1 ∷ 0 ∷ 1 ∷ 4 ∷ 127 ∷ 0 ∷ 0 ∷ []) ≡ refused 25 4
unfolding read_from fault wrong with_field
unknown = refl

cut_before_unknown : reading (4 ∷ 0 ∷ 1 ∷ []) ≡ refused 26 0
unfolding read_from fault wrong with_field
cut_before_unknown = refl
