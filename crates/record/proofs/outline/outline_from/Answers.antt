-- Each return is one of the laws of an outline.
use Rattle.std.proofs.Common.{◌∙◌, arith}
use Rattle.record.proofs.OutlineLaws.{fixed, word_kept, word_lost, hyper_kept, hyper_lost, fields_short, fields_cut, fields_whole}
use Rattle.record.proofs.outline.outline_from.Goals as goal

pub returns-in_err-flags : goal.returns-in_err-flags
returns-in_err-flags c =
    let h = (word_lost c.read_word.ensures c.ok.ensures.value c.in_err-flags.was).cut in
    c.from_residual.ensures ∙ fields_cut c.args.s.now c.args.name c.args.stop c.args.rest (omega (arith, h))

pub returns-in_err-modified : goal.returns-in_err-modified
returns-in_err-modified c =
    let f = (word_kept c.read_word.ensures c.ok.ensures.value c.in_ok-flags.was).ends in
    let h = (hyper_lost c.read_hyper.ensures c.ok-2.ensures.value c.in_err-modified.was).cut in
    c.from_residual-in_err-modified.ensures ∙ fields_cut c.args.s.now c.args.name c.args.stop c.args.rest (omega (arith, h, f))

pub returns-in_err-version : goal.returns-in_err-version
returns-in_err-version c =
    let f = (word_kept c.read_word.ensures c.ok.ensures.value c.in_ok-flags.was).ends in
    let m = (hyper_kept c.read_hyper.ensures c.ok-2.ensures.value c.in_ok-modified.was).ends in
    let h = (word_lost c.read_word-2.ensures c.ok-3.ensures.value c.in_err-version.was).cut in
    c.from_residual-in_err-version.ensures ∙ fields_cut c.args.s.now c.args.name c.args.stop c.args.rest (omega (arith, h, f, m))

pub returns-in_err-blocks : goal.returns-in_err-blocks
returns-in_err-blocks c =
    let f = (word_kept c.read_word.ensures c.ok.ensures.value c.in_ok-flags.was).ends in
    let m = (hyper_kept c.read_hyper.ensures c.ok-2.ensures.value c.in_ok-modified.was).ends in
    let v = (word_kept c.read_word-2.ensures c.ok-3.ensures.value c.in_ok-version.was).ends in
    let h = (word_lost c.read_word-3.ensures c.ok-4.ensures.value c.in_err-blocks.was).cut in
    c.from_residual-in_err-blocks.ensures ∙ fields_cut c.args.s.now c.args.name c.args.stop c.args.rest (omega (arith, h, f, m, v))

pub overflow_sub-s : goal.overflow_sub-s
overflow_sub-s c = (word_kept c.read_word-3.ensures c.ok-4.ensures.value c.in_ok-blocks.was).room

pub returns-then-s-first : goal.returns-then-s-first
returns-then-s-first c =
    let b = word_kept c.read_word-3.ensures c.ok-4.ensures.value c.in_ok-blocks.was in
    let x =
    fixed (word_kept c.read_word.ensures c.ok.ensures.value c.in_ok-flags.was) (hyper_kept c.read_hyper.ensures c.ok-2.ensures.value c.in_ok-modified.was)
    (word_kept c.read_word-2.ensures c.ok-3.ensures.value c.in_ok-version.was) b in
    fields_short c.args.s.now c.args.name c.args.stop c.args.rest x (omega (arith, b.room, c.if-s-first.true))

pub returns : goal.returns
returns c =
    let b = word_kept c.read_word-3.ensures c.ok-4.ensures.value c.in_ok-blocks.was in
    let x =
    fixed (word_kept c.read_word.ensures c.ok.ensures.value c.in_ok-flags.was) (hyper_kept c.read_hyper.ensures c.ok-2.ensures.value c.in_ok-modified.was)
    (word_kept c.read_word-2.ensures c.ok-3.ensures.value c.in_ok-version.was) b in
    fields_whole c.args.s.now c.args.name c.args.stop c.args.rest x (omega (arith, b.room, c.if-s-first.false))
