-- What comparing two records gives.
use Rattle.std.specs.declared.option.Option.{Option}
use Prim.Native.Nat.{ℕ}
use mathlib.Core.List.{List}
use mathlib.Core.Path.{◌≡◌, ap, ◌∙◌}
use Rattle.record.specs.declared.outline.RecordFields.{RecordFields}
use Rattle.bep.specs.Tables.{compared_number, compared_words}

-- two records compared, by their outlines
pub compared : (a : List ℕ) (i : ℕ) (b : List ℕ) (j : ℕ) {x y u v : Option RecordFields} → x ≡ u → y ≡ v → (compared_number x y ≡ compared_number u v) × (compared_words a i x b j y ≡ compared_words a i u b j v)
compared a i b j {x} {y} {u} {v} e f = (
  ap (λ (o : Option RecordFields). compared_number o y) e ∙ ap (λ (o : Option RecordFields). compared_number u o) f,
  ap (λ (o : Option RecordFields). compared_words a i o b j y) e ∙ ap (λ (o : Option RecordFields). compared_words a i u b j o) f,
)
