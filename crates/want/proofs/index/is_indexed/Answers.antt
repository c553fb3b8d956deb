use mathlib.Core.Bool.{false}
use mathlib.Core.Path.{◌≡◌, refl, sym, ap, ◌∙◌}
use Rattle.want.specs.Steps.Blocks.{block_here}
use Rattle.want.specs.Steps.Index.{is_present}
use Rattle.want.specs.declared.index.Slot.{Slot}
use Rattle.want.specs.declared.index.Slot.TheVariants.{Free, Present, Full}
use Rattle.want.proofs.IndexLaws.{missed_held}
use Rattle.want.proofs.index.is_indexed.Goals as goal

absent : (x : Slot) → (x ≡ Present → ⊥) → false ≡ is_present x
absent (Free i) h = refl
absent Present h = absurd (h refl)
absent Full h = refl

pub returns-in-Present : goal.returns-in-Present
returns-in-Present c = ap is_present (sym c.in-Present.is) ∙ missed_held c.requires.indexed (block_here c.args.t.now c.args.p) c.probe.ensures

pub returns-in_default : goal.returns-in_default
returns-in_default c = absent c.probe.result c.in_default.not-Present ∙ missed_held c.requires.indexed (block_here c.args.t.now c.args.p) c.probe.ensures
