-- Word by word.
use Rattle.std.proofs.Common.{sym, refl, ◌∙◌}
use Rattle.sha256.proofs.WordLaws.{block_words, both}
use Rattle.sha256.proofs.block.block_of.Goals as goal

pub returns : goal.returns
returns c =
    (both c.word_at.ensures
    (both c.word_at-2.ensures
    (both c.word_at-3.ensures
    (both c.word_at-4.ensures
    (both c.word_at-5.ensures
    (both c.word_at-6.ensures
    (both c.word_at-7.ensures
    (both c.word_at-8.ensures
    (both c.word_at-9.ensures
    (both c.word_at-10.ensures
    (both c.word_at-11.ensures
    (both c.word_at-12.ensures
    (both c.word_at-13.ensures
    (both c.word_at-14.ensures
    (both c.word_at-15.ensures
    (both c.word_at-16.ensures
    refl))))))))))))))))
    ∙ sym (block_words c.args.s.now 0)
