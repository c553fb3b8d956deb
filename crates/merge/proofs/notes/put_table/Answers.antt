use mathlib.Core.Path.{sym, ◌∙◌}
use Rattle.merge.proofs.PutLaws.{put_large, put_short, put_filled}
use Rattle.merge.proofs.notes.put_table.Goals as goal

pub returns-then-not-within_limits : goal.returns-then-not-within_limits
returns-then-not-within_limits c fs m =
    let s = c.args in
    put_large s.a.now s.b.now s.notes.now s.size s.out.now fs m (sym c.within_limits.ensures ∙ c.if-not-within_limits.true) c.refused.ensures

pub returns-then-out-size : goal.returns-then-out-size
returns-then-out-size c fs m =
    let s = c.args in
    put_short s.a.now s.b.now s.notes.now s.size s.out.now fs m (sym c.within_limits.ensures ∙ c.if-not-within_limits.false) c.if-out-size.true c.refused-then-out-size.ensures

pub returns : goal.returns
returns c fs m =
    let s = c.args in
    put_filled s.a.now s.b.now s.notes.now s.size s.out.now fs m (sym c.within_limits.ensures ∙ c.if-not-within_limits.false) c.if-out-size.false c.put_word.ensures.1 c.put_notes.ensures
