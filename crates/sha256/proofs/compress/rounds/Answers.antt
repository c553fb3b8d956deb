-- A row of rounds more, and the last sixteen after the third.
use Rattle.std.proofs.Common.{◌≡◌, sym, ◌∙◌, arith}
use Rattle.sha256.specs.Steps.{words_in}
use Rattle.sha256.proofs.RoundLaws.{row_turn, row_end}
use Rattle.sha256.proofs.compress.rounds.Goals as goal

pub loop-row-preserved : goal.loop-row-preserved
loop-row-preserved c =
    let l = c.loop-row in
    let e = c.first_eight-half in
    let f = c.second_eight-step in
    l.invariant ∙ row_turn l.block e.result.block f.result.block l.state e.result.state f.result.state l.row c.loop-row-test.true e.ensures f.ensures

pub returns : goal.returns
returns c =
    let l = c.loop-row in
    let n : l.row ≡ 3 = omega arith in
    c.last_sixteen.ensures ∙ sym (l.invariant ∙ row_end l.row (words_in l.block) l.state n)
