-- The record that is next over five tables, and its turn.
use Rattle.std.specs.Prelude.{Some, None}
use Rattle.std.specs.declared.option.Option.{Option}
use Prim.Native.Nat.{ℕ}
use mathlib.Core.List.{List}
use mathlib.Core.Path.{◌≡◌, refl, sym, ap, subst, ◌∙◌}
use Rattle.record.specs.declared.outline.RecordFields.{RecordFields}
use Rattle.want.specs.Steps.Places.{table_at, places_after, sought_of}
use Rattle.want.specs.Steps.Head.{name_at, Headed}
use Rattle.want.specs.Steps.Turn.{turn_of}
use Rattle.want.specs.declared.turn.Turn.{Turn}
use Rattle.want.proofs.RankLaws.{headed_past}

-- where the tables go on after its name
pub headed_after : {ts : List (List ℕ)} {ps : List ℕ} {b : ℕ} {x : Option RecordFields} {f : RecordFields} {l : List ℕ} → Headed ts ps 5 b x l → x ≡ Some f → l ≡ places_after ts ps (name_at (table_at ts b) f)
headed_after {ts} {ps} {b} {x} {f} {l} w e = headed_past (subst (λ (y : Option RecordFields). Headed ts ps 5 b y l) e w)

-- a turn, by what was told of it

module _ (best : ℕ) (x : Option RecordFields) {r : Option Turn} (e : r ≡ turn_of best x) where
  ended_by : (y : Option RecordFields) → turn_of best y ≡ None → y ≡ None
  ended_by None t = refl
  ended_by (Some f) t = cc

  pub turn_ended : r ≡ None → x ≡ None
  turn_ended t = ended_by x (sym e ∙ t)

  -- a record is next
  pub record Goes (g : Turn) : Type 0 where
    pub record_fields : RecordFields
    pub is : x ≡ Some record_fields
    pub first_is : g.first ≡ record_fields.first
    pub count_is : g.count ≡ sought_of best record_fields

  goes_by : (y : Option RecordFields) → x ≡ y → {g : Turn} → turn_of best y ≡ Some g → Goes g
  goes_by None q t = cc
  goes_by (Some f) q {g} t =
      let k : ◌≡◌ {A = Option Turn} (Some (record { first = f.first; count = sought_of best f })) (Some g) = t in
      let w : record { first = f.first; count = sought_of best f } ≡ g = cc in
      record { record_fields = f; is = q; first_is = ap (λ (y : Turn). y.first) (sym w); count_is = ap (λ (y : Turn). y.count) (sym w) }

  pub turn_goes : {g : Turn} → r ≡ Some g → Goes g
  turn_goes t = goes_by x refl (sym e ∙ t)
