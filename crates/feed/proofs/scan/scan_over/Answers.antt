use mathlib.Core.Path.{sym, ap, ◌∙◌}
use Rattle.feed.specs.declared.state.Rule.{Rule}
use Rattle.feed.specs.Rest.{scanned}
use Rattle.feed.proofs.TextLaws.{scanned_free}
use Rattle.feed.proofs.scan.scan_over.Goals as goal

pub returns : goal.returns
returns c = sym (ap (λ (r : Rule). scanned r c.args.scan c.args.i c.args.part.now) c.in-Opaque.is ∙ scanned_free c.args.part.now c.args.scan c.args.i)
