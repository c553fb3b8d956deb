use Rattle.std.specs.declared.option.Option.{Option}
use Prim.Native.Nat.{ℕ}
use mathlib.Core.List.{List, map}
use mathlib.Core.Path.{refl, sym, ap, subst, ◌∙◌}
use Rattle.record.specs.Outline.{outline_of}
use Rattle.want.proofs.PlaceLaws.{element}
use Rattle.reason.specs.Steps.{higher_in, BestOf}
use Rattle.reason.specs.declared.highest.Best.{Best}
use Rattle.reason.proofs.BestLaws.{best_none, best_first, best_stays, best_new, compared_in}
use Rattle.reason.proofs.highest.better.Goals as goal

pub returns-in_default : goal.returns-in_default
returns-in_default c l m h r = best_none r c.requires.small h (c.outline_at.ensures ∙ ap (λ (s : List ℕ). outline_of s c.args.at) (element (λ x. x.now) c.args.tables c.args.k _ refl)) c.in_default.is

pub returns-in_default-best : goal.returns-in_default-best
returns-in_default-best c l m h r = best_first r c.requires.small h (c.outline_at.ensures ∙ ap (λ (s : List ℕ). outline_of s c.args.at) (element (λ x. x.now) c.args.tables c.args.k _ refl)) c.in-Some.is c.in_default-best.is

pub returns-then-is_lt : goal.returns-then-is_lt
returns-then-is_lt c l m h r =
    subst (λ (y : Option Best). BestOf (map (λ x. x.now) c.args.tables) y (higher_in l m)) c.in-Some-best.is
    (best_stays r c.requires.small h (c.outline_at.ensures ∙ ap (λ (s : List ℕ). outline_of s c.args.at) (element (λ x. x.now) c.args.tables c.args.k _ refl)) c.in-Some.is c.in-Some-best.is
    (compared_in c.in-Some.fields c.in-Some-best.b.fields c.compare_records.ensures (element (λ x. x.now) c.args.tables c.args.k _ refl) (element (λ x. x.now) c.args.tables c.in-Some-best.b.table _ refl))
    (sym c.is_lt.ensures ∙ c.if-is_lt.true))

pub returns : goal.returns
returns c l m h r =
    best_new r c.requires.small h (c.outline_at.ensures ∙ ap (λ (s : List ℕ). outline_of s c.args.at) (element (λ x. x.now) c.args.tables c.args.k _ refl)) c.in-Some.is c.in-Some-best.is
    (compared_in c.in-Some.fields c.in-Some-best.b.fields c.compare_records.ensures (element (λ x. x.now) c.args.tables c.args.k _ refl) (element (λ x. x.now) c.args.tables c.in-Some-best.b.table _ refl))
    (sym c.is_lt.ensures ∙ c.if-is_lt.false)
