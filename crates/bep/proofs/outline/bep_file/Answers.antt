-- A name starts before it ends.
use Rattle.std.specs.Prelude.{Some, None}
use Prim.Native.Nat.{ℕ, ◌+◌, ◌≤◌}
use mathlib.Core.List.{List}
use mathlib.Core.Path.{◌≡◌, sym, ◌∙◌}
use mathlib.Core.Bool.{Bool, true, false, cond}
use native.Mathlib.Omega.{arith}
use lib.ListN.{length}
use lib.Dec.{leb}
use Rattle.xdr.specs.Pad.{padded}
use Rattle.record.specs.Outline.{word_at, fields_from, outline_from, outline_of}
use Rattle.record.specs.declared.outline.RecordFields.{RecordFields}
use Rattle.bep.proofs.outline.bep_file.Goals as goal

same-fields : (b : Bool) (f g : RecordFields) → Some f ≡ cond b (Some g) None → f ≡ g
same-fields true f g e = cc
same-fields false f g e = cc

name_first : (s : List ℕ) (at : ℕ) (f : RecordFields) → Some f ≡ outline_of s at → f.name ≤ f.stop
unfolding outline_of outline_from
name_first s at f e =
    let g = fields_from s (at + 4) (at + 4 + word_at s at) (at + 4 + padded (word_at s at)) in
    rw (same-fields (leb g.past (length s)) f g e) (omega arith)

pub field_words-requires : goal.field_words-requires
field_words-requires c = name_first c.args.files.now c.args.at c.in-Some.f (sym c.in-Some.is ∙ c.outline_at.ensures)
