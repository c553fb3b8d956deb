use mathlib.Core.Path.{◌≡◌, sym, ◌∙◌}
use Prim.Native.Nat.{◌+◌, ◌-◌}
use borrow.Author.Tests.{eq-eqb, ne_eqb}
use native.Mathlib.Omega.{arith}
use Rattle.feed.specs.Steps.Next.{after_string}
use Rattle.xdr.specs.Pad.{padded}
use Rattle.feed.proofs.CodeLaws.{rule_passes, rule_fills, rule_leads}
use Rattle.feed.proofs.steps.after_string.Goals as goal

pub returns-then-state-pad_of : goal.returns-then-state-pad_of
unfolding after_string
returns-then-state-pad_of c = simp (c.stopped.ensures, ne_eqb c.args.state.zeros (padded c.args.state.value - c.args.state.value) (λ e. c.if-state-pad_of.true (e ∙ sym c.pad_of.ensures)))

pub returns-then-not-passes : goal.returns-then-not-passes
unfolding after_string
returns-then-not-passes c = simp (c.stopped-then-not-passes.ensures, eq-eqb c.args.state.zeros (padded c.args.state.value - c.args.state.value) (c.if-state-pad_of.false ∙ c.pad_of.ensures), rule_passes c.args.string c.rule_of-rule.ensures c.args.state.scan c.passes.ensures c.if-not-passes.true)

pub returns-then-not-fills : goal.returns-then-not-fills
unfolding after_string
returns-then-not-fills c = simp (c.stopped-then-not-fills.ensures, eq-eqb c.args.state.zeros (padded c.args.state.value - c.args.state.value) (c.if-state-pad_of.false ∙ c.pad_of.ensures), rule_passes c.args.string c.rule_of-rule.ensures c.args.state.scan c.passes.ensures c.if-not-passes.false, rule_fills c.args.string c.rule_of-rule.ensures c.args.state.value c.fills.ensures c.if-not-fills.true)

pub returns-then-not-leads : goal.returns-then-not-leads
unfolding after_string
returns-then-not-leads c = simp (c.stopped-then-not-leads.ensures, eq-eqb c.args.state.zeros (padded c.args.state.value - c.args.state.value) (c.if-state-pad_of.false ∙ c.pad_of.ensures), rule_passes c.args.string c.rule_of-rule.ensures c.args.state.scan c.passes.ensures c.if-not-passes.false, rule_fills c.args.string c.rule_of-rule.ensures c.args.state.value c.fills.ensures c.if-not-fills.false, rule_leads c.args.string c.rule_of-rule.ensures c.args.state.scan c.leads.ensures c.if-not-leads.true)

pub returns : goal.returns
unfolding after_string
returns c = let all : c.args.state.value + c.pad_after.result ≡ padded c.args.state.value = omega (arith, c.pad_after.ensures) in simp (c.at_goal.ensures, c.behind_string.ensures, all, eq-eqb c.args.state.zeros (padded c.args.state.value - c.args.state.value) (c.if-state-pad_of.false ∙ c.pad_of.ensures), rule_passes c.args.string c.rule_of-rule.ensures c.args.state.scan c.passes.ensures c.if-not-passes.false, rule_fills c.args.string c.rule_of-rule.ensures c.args.state.value c.fills.ensures c.if-not-fills.false, rule_leads c.args.string c.rule_of-rule.ensures c.args.state.scan c.leads.ensures c.if-not-leads.false)
