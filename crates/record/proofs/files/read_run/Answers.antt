-- The loop's invariant: so many files have been read, they rise where they are to, and the last name is
use Rattle.std.proofs.Common.{ℕ, sym, ap, ◌∙◌, arith}
use Rattle.xdr.proofs.Answered.{handed_up, word_taken, word_refused, refusal_is}
use Rattle.xdr.proofs.Steps.{ends, refused_within}
use Rattle.record.proofs.CheckLaws.{not_both, next_file, next_refused, checked_none, checked_more, count_answers, file_answers, broken_answers, all_answers}
use Rattle.record.proofs.files.read_run.Goals.{then-rising+else-not-rises, else-rising}
use Rattle.record.proofs.files.read_run.Goals as goal

pub returns-in_default : goal.returns-in_default
returns-in_default c =
    rw (handed_up {C = ℕ × ℕ} c.in_default.is c.refusal_of.ensures) (count_answers c.args.rising c.args.limit (word_refused c.read_count-answer.ensures c.in_default.is))

pub loop-i-init : goal.loop-i-init
loop-i-init c = (checked_none c.args.s.now _ (ends (omega arith) (word_taken c.read_count-answer.ensures c.in-Ok.is)).1, omega arith)

pub slice_bounds-read_file-count : goal.slice_bounds-read_file-count
slice_bounds-read_file-count c = omega (arith, c.loop-i.invariant.0.room)

pub slice_bounds-read_file-start : goal.slice_bounds-read_file-start
slice_bounds-read_file-start c = omega (arith, c.loop-i.invariant.0.room)

pub slice_bounds-read_file-end : goal.slice_bounds-read_file-end
slice_bounds-read_file-end c = omega (arith, c.loop-i.invariant.0.room)

pub overflow_add-result : goal.overflow_add-result
overflow_add-result c =
    omega (arith, refused_within c.loop-i.invariant.0.room (next_refused c.args.s.now c.loop-i.next c.read_file-read.ensures (refusal_is c.in_default-read.is c.refusal_of-refusal.ensures)))

pub returns-in_default-read : goal.returns-in_default-read
returns-in_default-read c =
    file_answers c.args.rising c.args.limit c.loop-i.invariant.0 (word_taken c.read_count-answer.ensures c.in-Ok.is) c.loop-i-test.true (next_refused c.args.s.now c.loop-i.next c.read_file-read.ensures (refusal_is c.in_default-read.is c.refusal_of-refusal.ensures))

pub overflow_add-name : goal.overflow_add-name
overflow_add-name c = let n = (next_file c.args.s.now c.loop-i.next c.read_file-read.ensures c.in-Ok-read.is).name in omega (arith, n.ordered, n.inside)

pub overflow_add-stop : goal.overflow_add-stop
overflow_add-stop c = let n = (next_file c.args.s.now c.loop-i.next c.read_file-read.ensures c.in-Ok-read.is).name in omega (arith, n.inside)

pub slice_bounds-rises-count : goal.slice_bounds-rises-count
slice_bounds-rises-count c = let k = c.loop-i.invariant.0 in omega (arith, k.ordered, k.inside)

pub slice_bounds-rises-start : goal.slice_bounds-rises-start
slice_bounds-rises-start c = let k = c.loop-i.invariant.0 in omega (arith, k.ordered, k.inside)

pub slice_bounds-rises-end : goal.slice_bounds-rises-end
slice_bounds-rises-end c = let k = c.loop-i.invariant.0 in omega (arith, k.ordered, k.inside)

pub slice_bounds-rises-count-then-rising : goal.slice_bounds-rises-count-then-rising
slice_bounds-rises-count-then-rising c = let n = (next_file c.args.s.now c.loop-i.next c.read_file-read.ensures c.in-Ok-read.is).name in omega (arith, n.ordered, n.inside)

pub slice_bounds-rises-start-then-rising : goal.slice_bounds-rises-start-then-rising
slice_bounds-rises-start-then-rising c = let n = (next_file c.args.s.now c.loop-i.next c.read_file-read.ensures c.in-Ok-read.is).name in omega (arith, n.ordered, n.inside)

pub slice_bounds-rises-end-then-rising : goal.slice_bounds-rises-end-then-rising
slice_bounds-rises-end-then-rising c = let n = (next_file c.args.s.now c.loop-i.next c.read_file-read.ensures c.in-Ok-read.is).name in omega (arith, n.ordered, n.inside)

pub returns-then-not-rises : goal.returns-then-not-rises
returns-then-not-rises c =
    let n = (next_file c.args.s.now c.loop-i.next c.read_file-read.ensures c.in-Ok-read.is) in
    let e = sym c.rises.ensures ∙ c.if-not-rises.true in
    broken_answers c.args.rising c.args.limit c.loop-i.invariant.0 (word_taken c.read_count-answer.ensures c.in-Ok.is) c.if-rising.true n.reads n.name c.loop-i-test.true e

pub overflow_add-next : goal.overflow_add-next
overflow_add-next c =
    let w = ends c.loop-i.invariant.0.room (next_file c.args.s.now c.loop-i.next c.read_file-read.ensures c.in-Ok-read.is).reads in
    omega (arith, w.1)

pub loop-i-preserved : goal.loop-i-preserved
loop-i-preserved c =
    let n = (next_file c.args.s.now c.loop-i.next c.read_file-read.ensures c.in-Ok-read.is) in
    (checked_more c.loop-i.invariant.0 n.reads n.name (elim c.if-rising.branch [ then-rising+else-not-rises w ↦ λ y. sym w.rises.ensures ∙ w.if-not-rises.false | else-rising w ↦ λ y. not_both y w.if-rising.false ]), omega arith)

pub returns : goal.returns
returns c = all_answers c.args.rising c.args.limit c.loop-i.invariant.0 (word_taken c.read_count-answer.ensures c.in-Ok.is) (omega arith)
