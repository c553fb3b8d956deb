-- A lead byte with none, one or more followers.
use Prim.Native.Nat.{◌+◌}
use mathlib.Core.Path.{refl, sym, ◌∙◌}
use native.Mathlib.Omega.{arith}
use lib.ListN.{get_or}
use Rattle.xdr.specs.Text.{lowest, highest}
use Rattle.xdr.proofs.LeadLaws.{loose_one}
use Rattle.xdr.proofs.TextRule.{goes_on, sequence_whole, loose_whole}
use Rattle.xdr.proofs.text.one_at.Goals as goal

pub returns-in-0 : goal.returns-in-0
returns-in-0 c =
    let b = get_or c.args.s.now c.args.at 0 in
    goes_on _ _ 1 (λ z. omega arith) (sequence_whole c.args.s.now c.args.at 0 c.requires (sym c.in-0.is ∙ c.followers.ensures) (omega arith) {low = lowest b} {high = highest b} refl refl refl)

pub returns-in-1 : goal.returns-in-1
returns-in-1 c =
    goes_on _ _ 2 (λ z. omega arith)
    (loose_whole c.args.s.now c.args.at 1 c.requires (loose_one _ (sym c.followers.ensures ∙ c.in-1.is)) (omega arith) (sym c.follows_at.ensures ∙ c.if-follows_at.true))

pub returns-in_default-2 : goal.returns-in_default-2
returns-in_default-2 c =
    goes_on _ _ (1 + c.followers.result) (λ z. omega arith)
    (sequence_whole c.args.s.now c.args.at c.followers.result c.requires c.followers.ensures c.if-n-le3.true c.lowest.ensures c.highest.ensures (sym c.followed.ensures ∙ c.if-followed.true))
