-- A record that a step finds has a name that starts before it ends.
use Rattle.std.specs.Prelude.{Ok, Err, Some, None}
use Rattle.std.specs.declared.result.Result.{Result}
use Rattle.std.specs.declared.option.Option.{Option}
use Rattle.xdr.specs.declared.answer.Refusal.{Refusal}
use Prim.Native.Nat.{ℕ, ◌+◌, ◌≤◌}
use mathlib.Core.List.{List, [], ◌∷◌}
use mathlib.Core.Bool.{Bool, true, false, cond}
use native.Mathlib.Omega.{arith}
use lib.ListN.{length}
use lib.Dec.{eqb}
use Rattle.xdr.specs.Format.{encode}
use Rattle.record.specs.File.{File, file}
use Rattle.table.specs.Table.{is_good, records}
use Rattle.walker.specs.Walk.{step_among, step_at}
use Rattle.record.specs.declared.outline.RecordFields.{RecordFields}

abbrev pub NameFirst : Result (Option RecordFields) Refusal → Type 0
NameFirst (Ok (Some f)) = f.name ≤ f.stop
NameFirst (Ok None) = Unit {0}
NameFirst (Err r) = Unit {0}

either : (b : Bool) (x y : Result (Option RecordFields) Refusal) → NameFirst x → NameFirst y → NameFirst (cond b x y)
either true x y p q = p
either false x y p q = q

among : (fs : List File) (first at : ℕ) → NameFirst (step_among fs first at)
among [] first at = either (eqb first at) _ _ tt tt
among (f ∷ fs) first at = either (eqb first at) _ _ (omega arith) (among fs (first + length (encode file f)) at)

pub name_first : (t : List ℕ) (at : ℕ) → NameFirst (step_at t at)
unfolding step_at
name_first t at = either (is_good t) _ _ (among (records t) 4 at) tt
