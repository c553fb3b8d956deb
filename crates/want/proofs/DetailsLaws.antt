-- What a Request says, by whether the tables are good and by the record of the name's number.
use Rattle.std.specs.Prelude.{Ok, Err}
use Rattle.std.specs.Prelude.{Some, None}
use Rattle.std.specs.declared.option.Option.{Option}
use Prim.Native.Nat.{ℕ}
use mathlib.Core.List.{List, ◌∷◌, map}
use mathlib.Core.Path.{◌≡◌, refl, sym, ap, ◌∙◌}
use mathlib.Core.Bool.{Bool, true, false}
use Rattle.xdr.specs.Answers.{at_start}
use Rattle.record.specs.declared.outline.RecordFields.{RecordFields}
use Rattle.table.specs.Table.{all_good, records}
use Rattle.merge.specs.Merged.{merged_of}
use Rattle.want.specs.Details.{file_numbered, details_in, details_of}
use Rattle.want.specs.Steps.Places.{table_at}
use Rattle.want.specs.Steps.Entry.{details_by, details_from, Numbered}
use Rattle.want.specs.declared.entry.Details.{Details}

-- by whether the tables are good, and by the record of the name's number
module _ (local : List ℕ) (peers : List (List ℕ)) (n block : ℕ) {t : Bool} (e : t ≡ all_good (local ∷ peers)) where
  pub details_bad : t ≡ false → Err (at_start 15) ≡ details_of local peers n block
  unfolding details_of
  details_bad q = rw (sym e ∙ q) refl

  pub details_good : t ≡ true → Ok (file_numbered None (details_in (map records (local ∷ peers)) block) n (merged_of (map records (local ∷ peers)))) ≡ details_of local peers n block
  unfolding details_of
  details_good q = rw (sym e ∙ q) refl

  module _ (q : t ≡ true) {x : Option (ℕ × RecordFields)} (w : Numbered (local ∷ peers) n x) where
    by_outline : {y : Option (ℕ × RecordFields)} → x ≡ y → Ok (details_from (local ∷ peers) block y) ≡ details_of local peers n block
    by_outline f = ap Ok (ap (details_from (local ∷ peers) block) (sym f) ∙ w.told block) ∙ details_good q

    pub details_none : x ≡ None → Ok None ≡ details_of local peers n block
    details_none f = by_outline f

    pub details_found : {k : ℕ} {f : RecordFields} {s : List ℕ} {r : Option Details} → x ≡ Some (k, f) → s ≡ table_at (local ∷ peers) k → r ≡ details_by s k block f → Ok r ≡ details_of local peers n block
    details_found {k} {f} g i d = ap Ok (d ∙ ap (λ (l : List ℕ). details_by l k block f) i) ∙ by_outline g
