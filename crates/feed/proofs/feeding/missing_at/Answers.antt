use mathlib.Core.Path.{sym, ap, ◌∙◌}
use Prim.Native.Nat.{◌+◌, ◌-◌}
use mathlib.Core.Bool.{Bool, cond}
use borrow.Author.Tests.{le-leb, lt-leb}
use Rattle.feed.specs.declared.state.Goal.{Goal}
use Rattle.feed.specs.Missing.{missing_of, missing_in}
use Rattle.feed.proofs.feeding.missing_at.Goals as goal

pub returns-in-Word : goal.returns-in-Word
unfolding missing_in
returns-in-Word c = c.word_missing.ensures ∙ ap (λ (g : Goal). missing_of g c.args.cursor) (sym c.in-Word.is)

pub returns-then-cursor-le3 : goal.returns-then-cursor-le3
unfolding missing_in
returns-then-cursor-le3 c = c.word_missing-then-cursor-le3.ensures ∙ sym (ap (λ (x : Bool). cond x (4 - c.args.cursor.have) (c.args.cursor.todo + c.args.cursor.pad)) (le-leb c.args.cursor.have 3 c.if-cursor-le3.true)) ∙ ap (λ (g : Goal). missing_of g c.args.cursor) (sym c.in-String.is)

pub returns-else-cursor-le3 : goal.returns-else-cursor-le3
unfolding missing_in
returns-else-cursor-le3 c = sym (ap (λ (x : Bool). cond x (4 - c.args.cursor.have) (c.args.cursor.todo + c.args.cursor.pad)) (lt-leb c.args.cursor.have 3 c.if-cursor-le3.false)) ∙ ap (λ (g : Goal). missing_of g c.args.cursor) (sym c.in-String.is)

pub returns-in-Skip : goal.returns-in-Skip
unfolding missing_in
returns-in-Skip c = ap (λ (g : Goal). missing_of g c.args.cursor) (sym c.in-Skip.is)

pub returns-in-Ended : goal.returns-in-Ended
unfolding missing_in
returns-in-Ended c = ap (λ (g : Goal). missing_of g c.args.cursor) (sym c.in-Ended.is)

pub returns-in-Stopped : goal.returns-in-Stopped
unfolding missing_in
returns-in-Stopped c = ap (λ (g : Goal). missing_of g c.args.cursor) (sym c.in-Stopped.is)
